-- What holds of each command.
use Rattle.std.proofs.Common.{[], ◌∷◌}
use Rattle.std.specs.List.{All}
use Rattle.std.proofs.lemmas.List.Elements.{All-cons, All-nil}
use Rattle.program_command.specs.Line.{Verb, bound, ceiling, check, draw, graph, outline, replay, report, size, table, trace, verbs}
use Rattle.program_command.specs.Line.{waits, walk}

pub all_verbs : (P : Verb → Type 0) → P bound → P check → P report → P walk → P waits → P table → P size → P graph
    → P outline → P draw → P ceiling → P replay → P trace → All P verbs
all_verbs P of_bound of_check of_report of_walk of_waits of_table of_size of_graph of_outline of_draw of_ceiling of_replay
    of_trace =
    let runs = replay ∷ trace ∷ [] in
    All-cons P bound (check ∷ report ∷ walk ∷ waits ∷ table ∷ size ∷ graph ∷ outline ∷ draw ∷ ceiling ∷ runs) of_bound
    (All-cons P check (report ∷ walk ∷ waits ∷ table ∷ size ∷ graph ∷ outline ∷ draw ∷ ceiling ∷ runs) of_check
    (All-cons P report (walk ∷ waits ∷ table ∷ size ∷ graph ∷ outline ∷ draw ∷ ceiling ∷ runs) of_report
    (All-cons P walk (waits ∷ table ∷ size ∷ graph ∷ outline ∷ draw ∷ ceiling ∷ runs) of_walk
    (All-cons P waits (table ∷ size ∷ graph ∷ outline ∷ draw ∷ ceiling ∷ runs) of_waits
    (All-cons P table (size ∷ graph ∷ outline ∷ draw ∷ ceiling ∷ runs) of_table
    (All-cons P size (graph ∷ outline ∷ draw ∷ ceiling ∷ runs) of_size
    (All-cons P graph (outline ∷ draw ∷ ceiling ∷ runs) of_graph
    (All-cons P outline (draw ∷ ceiling ∷ runs) of_outline
    (All-cons P draw (ceiling ∷ runs) of_draw
    (All-cons P ceiling runs of_ceiling
    (All-cons P replay (trace ∷ []) of_replay (All-cons P trace [] of_trace (All-nil P)))))))))))))
