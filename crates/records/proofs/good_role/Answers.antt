-- `records::good_role` meets its contract: the code tests the rules one after the other. Assumes nothing.
use native.Mathlib.Omega.{arith}
use mathlib.Core.Path.{sym, ◌∙◌}
use Rattle.records.specs.laws.Roles.{role-short, role-fifth, role-long, role-unknown, role-events}
use Rattle.records.proofs.good_role.Goals as goal

pub returns-then-s-role_length : goal.returns-then-s-role_length
returns-then-s-role_length c = λ rows start e v. role-short rows c.args.roles c.args.i start c.args.s.now (omega arith)

pub returns-then-i-ge-MOST_ROLES : goal.returns-then-i-ge-MOST_ROLES
returns-then-i-ge-MOST_ROLES c = λ rows start e v. role-fifth rows c.args.roles c.args.i start c.args.s.now (omega arith) (omega arith)

pub returns-then-from-gt-MOST_EVENTS : goal.returns-then-from-gt-MOST_EVENTS
returns-then-from-gt-MOST_EVENTS c =
    λ rows start e v. role-long rows c.args.roles c.args.i start c.args.s.now (omega arith) (omega arith) (rw (← c.from.ensures, ← c.from-2.ensures) (omega arith))

pub returns-then-not-knowledge_fits : goal.returns-then-not-knowledge_fits
returns-then-not-knowledge_fits c =
    λ rows start e v. role-unknown rows c.args.roles c.args.i start c.args.s.now (omega arith) (omega arith) (rw (← c.from.ensures, ← c.from-2.ensures) (omega arith))
    (sym (c.knowledge_fits.ensures rows e v) ∙ c.if-not-knowledge_fits.true)

pub returns : goal.returns
returns c =
    λ rows start e v. c.events_fit.ensures rows start e
    ∙ role-events rows c.args.roles c.args.i start c.args.s.now (omega arith) (omega arith) (rw (← c.from.ensures, ← c.from-2.ensures) (omega arith))
    (sym (c.knowledge_fits.ensures rows e v) ∙ c.if-not-knowledge_fits.false)
