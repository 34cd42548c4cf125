-- `Opened::event_of` meets its contract: the four bytes of the event, and the agents of the run's own role and of the peer. Assumes nothing.
use native.Mathlib.Omega.{arith}
use Rattle.runs.specs.laws.Event.{record-inside, own-inside, bytes_inside, kind-there, peer-inside, event-read}
use Rattle.runs.specs.laws.Opened.{event-known}
use Rattle.runs.proofs.opened.Opened.event_of.Goals as goal

pub overflow_mul-at : goal.overflow_mul-at
overflow_mul-at c = omega (arith, event-known c.args.self.now c.requires (bytes_inside c.args.self.now.file.now c.args.self.now.runs c.args.k c.args.j))

pub overflow_add-at : goal.overflow_add-at
overflow_add-at c = omega (arith, event-known c.args.self.now c.requires (bytes_inside c.args.self.now.file.now c.args.self.now.runs c.args.k c.args.j))

pub kind_at-requires : goal.kind_at-requires
kind_at-requires c = (omega (arith, event-known c.args.self.now c.requires (bytes_inside c.args.self.now.file.now c.args.self.now.runs c.args.k c.args.j)), event-known c.args.self.now c.requires (kind-there c.args.self.now.file.now c.args.self.now.runs c.args.k c.args.j))

pub bounds-self-start : goal.bounds-self-start
bounds-self-start c = event-known c.args.self.now c.requires (record-inside c.args.self.now.file.now c.args.self.now.runs c.args.k c.args.j)

pub agent_of-requires : goal.agent_of-requires
agent_of-requires c =
    event-known c.args.self.now c.requires (λ w. own-inside c.args.self.now.file.now c.args.self.now.runs c.args.k c.args.j w c.from.ensures)

pub overflow_add-at-2 : goal.overflow_add-at-2
overflow_add-at-2 c = omega (arith, event-known c.args.self.now c.requires (bytes_inside c.args.self.now.file.now c.args.self.now.runs c.args.k c.args.j))

pub bounds-self-at : goal.bounds-self-at
bounds-self-at c = omega (arith, event-known c.args.self.now c.requires (bytes_inside c.args.self.now.file.now c.args.self.now.runs c.args.k c.args.j))

pub agent_of-requires-2 : goal.agent_of-requires-2
agent_of-requires-2 c =
    event-known c.args.self.now c.requires (λ w. peer-inside c.args.self.now.file.now c.args.self.now.runs c.args.k c.args.j w c.from-2.ensures)

pub overflow_add-at-3 : goal.overflow_add-at-3
overflow_add-at-3 c = omega (arith, event-known c.args.self.now c.requires (bytes_inside c.args.self.now.file.now c.args.self.now.runs c.args.k c.args.j))

pub bounds-self-at-2 : goal.bounds-self-at-2
bounds-self-at-2 c = omega (arith, event-known c.args.self.now c.requires (bytes_inside c.args.self.now.file.now c.args.self.now.runs c.args.k c.args.j))

pub returns : goal.returns
returns c =
    λ sc run ev at g found listed.
    event-read c.args.self.now.file.now sc run _ _ _ (at.each c.args.k run found) g c.args.k found c.args.j ev listed
    c.kind_at.ensures c.from.ensures c.agent_of.ensures.0 c.from-2.ensures c.agent_of-2.ensures.0 c.from-3.ensures
