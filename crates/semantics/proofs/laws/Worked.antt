-- The worked cases computed: every case of the tables holds, and P7 to P11 hold of the inference relation itself. Assumes nothing.
use Rattle.std.specs.Prelude.{◌≡◌, refl, [], ◌∷◌}
use Rattle.std.proofs.Math.Decide.{ℕ_discrete}
use Rattle.semantics.specs.Derive.{absent_from, derivable_row, derived}
use Rattle.semantics.specs.Frame.{unversioned, too_long, budget_of, framed, misframed, block_from, block, records_from, records, first_bad}
use Rattle.semantics.specs.Inference.{is_member, builds, parts_of, takes_apart, apart, weight, analysed, derivable, Derives}
use Rattle.semantics.specs.Moves.{values_of_type, candidates, choices, message, known_after, set_after, message_after, advanced, performed, moves_of_run, ready_at, runs_in, moves_in}
use Rattle.semantics.specs.Roles.{events_from, knowledge_in, events_in, role_in, role_records, roles_present, knowledge_fits, good_role, bad_role, absent_role_from, roles_from}
use Rattle.semantics.specs.Basic.{unfit_from}
use Rattle.semantics.specs.Runs.{run_in, run_records, good_run, bad_run, runs_from, all_trusted}
use Rattle.semantics.specs.Scenario.{scenario_of, opened}
use Rattle.semantics.specs.State.{term_of, assigned, reading_in, atoms_of, initial_knowledge, initial, events_of, active, unset_beneath, new_variables, events_left_from, events_left}
use Rattle.semantics.specs.Table.{decode, fits, admissible, repeated, row_refusal, rows_from}
use Rattle.semantics.specs.Term.{size, pk, sk, encrypted}
use Rattle.semantics.specs.Tree.{listed}
use Rattle.semantics.specs.Value.{folded, value_from, values, value_of, beneath_from, beneath}
use Rattle.semantics.specs.Verdict.{trace_list, broken_event, broken_in_run, broken, walked, verdict, trace_bytes, short_buffer, searched_in, buffer_in}
use Rattle.semantics.specs.WellFormed.{readable_atom, readable, well_formed, event_term, role_knowledge, ill_formed_from, ill_formed}
use Rattle.semantics.specs.Replay.{is_value_of, suits, after, first_step, replayed_from, replayed}
use Rattle.semantics.specs.Worked.{AllHold, cases, edges, short_cases, p1_file, p1_bytes, a, c, d}
use Rattle.semantics.proofs.laws.Inference.{derivable-exact}

-- the file above is P1's
pub p1-bytes : p1_file ≡ p1_bytes
p1-bytes = refl

-- P1 to P12, by computation
pub worked : AllHold cases
unfolding absent_from derivable_row derived unversioned too_long budget_of framed misframed block_from block records_from records first_bad is_member builds parts_of takes_apart apart weight analysed derivable values_of_type candidates choices message known_after set_after message_after advanced performed moves_of_run runs_in moves_in events_from knowledge_in events_in role_in role_records roles_present knowledge_fits good_role bad_role absent_role_from roles_from run_in run_records good_run bad_run runs_from unfit_from scenario_of opened term_of assigned reading_in atoms_of initial_knowledge initial events_of active unset_beneath new_variables events_left_from events_left decode fits admissible repeated row_refusal rows_from size listed folded value_from values value_of beneath_from beneath trace_list all_trusted broken_event broken_in_run broken walked verdict trace_bytes short_buffer searched_in buffer_in readable_atom readable well_formed event_term role_knowledge ill_formed_from ill_formed ℕ_discrete
worked = (refl, (refl, (refl, (refl, (refl, (refl, (refl, (refl, (refl, (refl, (refl, (refl, (refl, (refl, tt))))))))))))))

-- the cases on each side of limits and rules, by computation
pub edges-worked : AllHold edges
unfolding absent_from derivable_row derived unversioned too_long budget_of framed misframed block_from block records_from records first_bad is_member builds parts_of takes_apart apart weight analysed derivable values_of_type candidates choices message known_after set_after message_after advanced performed moves_of_run runs_in moves_in events_from knowledge_in events_in role_in role_records roles_present knowledge_fits good_role bad_role absent_role_from roles_from run_in run_records good_run bad_run runs_from unfit_from scenario_of opened term_of assigned reading_in atoms_of initial_knowledge initial events_of active unset_beneath new_variables events_left_from events_left decode fits admissible repeated row_refusal rows_from size listed folded value_from values value_of beneath_from beneath trace_list all_trusted broken_event broken_in_run broken walked verdict trace_bytes short_buffer searched_in buffer_in readable_atom readable well_formed event_term role_knowledge ill_formed_from ill_formed ℕ_discrete is_value_of suits after first_step replayed_from replayed
edges-worked = (refl, (refl, (refl, (refl, (refl, (refl, (refl, (refl, (refl, (refl, (refl, (refl, (refl, (refl, (refl, (refl, (refl, (refl, (refl, (refl, (refl, (refl, (refl, (refl, (refl, (refl, (refl, (refl, (refl, (refl, (refl, (refl, (refl, (refl, (refl, (refl, (refl, (refl, (refl, (refl, (refl, (refl, (refl, (refl, (refl, (refl, (refl, (refl, (refl, (refl, (refl, (refl, (refl, (refl, (refl, (refl, (refl, (refl, (refl, (refl, (refl, (refl, (refl, (refl, (refl, (refl, (refl, (refl, (refl, (refl, (refl, (refl, tt))))))))))))))))))))))))))))))))))))))))))))))))))))))))))))))))))))))))

-- the cases of the short list, by computation
pub short-worked : AllHold short_cases
unfolding absent_from derivable_row derived unversioned too_long budget_of framed misframed block_from block records_from records first_bad is_member builds parts_of takes_apart apart weight analysed derivable values_of_type candidates choices message known_after set_after message_after advanced performed moves_of_run ready_at runs_in moves_in events_from knowledge_in events_in role_in role_records roles_present knowledge_fits good_role bad_role absent_role_from roles_from run_in run_records good_run bad_run runs_from unfit_from scenario_of opened term_of assigned reading_in atoms_of initial_knowledge initial events_of active unset_beneath new_variables events_left_from events_left decode fits admissible repeated row_refusal rows_from size listed folded value_from values value_of beneath_from beneath trace_list all_trusted broken_event broken_in_run broken walked verdict trace_bytes short_buffer searched_in buffer_in readable_atom readable well_formed event_term role_knowledge ill_formed_from ill_formed ℕ_discrete
short-worked = (refl, (refl, (refl, (refl, (refl, (refl, (refl, (refl, (refl, (refl, tt))))))))))

-- P7 from {c}pk(a) and sk(a): c
pub p7 : Derives (encrypted c (pk a) ∷ sk a ∷ []) c
unfolding is_member builds parts_of takes_apart apart weight analysed derivable size ℕ_discrete
p7 = (derivable-exact (encrypted c (pk a) ∷ sk a ∷ []) c).0 tt

-- P8 from {c}pk(a) and pk(a): not c
pub p8 : Derives (encrypted c (pk a) ∷ pk a ∷ []) c → ⊥
unfolding is_member builds parts_of takes_apart apart weight analysed derivable size ℕ_discrete
p8 = (derivable-exact (encrypted c (pk a) ∷ pk a ∷ []) c).1

-- P9 from {c}sk(a) and pk(a): c
pub p9 : Derives (encrypted c (sk a) ∷ pk a ∷ []) c
unfolding is_member builds parts_of takes_apart apart weight analysed derivable size ℕ_discrete
p9 = (derivable-exact (encrypted c (sk a) ∷ pk a ∷ []) c).0 tt

-- P10 from {c} under the key {d}d, and d: c
pub p10 : Derives (encrypted c (encrypted d d) ∷ d ∷ []) c
unfolding is_member builds parts_of takes_apart apart weight analysed derivable size ℕ_discrete
p10 = (derivable-exact (encrypted c (encrypted d d) ∷ d ∷ []) c).0 tt

-- P11 from a: not pk(a)
pub p11 : Derives (a ∷ []) (pk a) → ⊥
unfolding is_member builds parts_of takes_apart apart weight analysed derivable size ℕ_discrete
p11 = (derivable-exact (a ∷ []) (pk a)).1
