use Rattle.std.proofs.Common.{subst, sym}
use Rattle.machine_steps.specs.Counts.{AreWithin}
use Rattle.flow_graph.specs.Flow.{notes_of}
use Rattle.flow_graph.proofs.PassLaws.{no_counts_within}
use Rattle.bound_scan.proofs.keys.Keys.start_key.Goals as goal

pub key_of-requires-clause-within : goal.key_of-requires-clause-within
key_of-requires-clause-within c =
    let marks = (notes_of c.args.self.now.accepted.now.flow).marks in
    subst (AreWithin marks) (sym (c.none.ensures marks c.requires.ordered.0.sound.few_marks)) (no_counts_within marks)
