use Rattle.std.proofs.Common.{List, ◌++◌, ◌∙◌, ℕ, flat_map, inr, refl, ap, subst}
use Rattle.base_notes.specs.Entries.{entry_in}
use Rattle.ceiling_rounds.specs.InRounds as walks
use Rattle.ceiling_checked.specs.CeilingOf.{total_of}
use Rattle.print_lines.specs.declared.status.Status.TheVariants.{Done}
use Rattle.print_lines.specs.Output.{GetsResult}
use Rattle.print_lines.proofs.NoLine.{no_line}
use Rattle.print_hops.specs.declared.waited.Waited.{Waited}
use Rattle.print_hops.specs.KindsOf.{waited_line}
use Rattle.print_hops.specs.WaitsText.{wait_line}
use Rattle.print_ceilings.specs.CeilingText.{total_lines}
use Rattle.print_ceilings.proofs.RowRoom.{hops_seen, spelled_out}
use Rattle.read_documents.specs.Documents.{setting_of}
use Rattle.program_answers.specs.Says.{rounds_waits_reply}
use Rattle.program_answers.proofs.answering.say_rounds_waits.Goals as goal

pub of-requires-clause-right : goal.of-requires-clause-right
of-requires-clause-right g c =
    (c.args.documents.now.deck, (c.args.documents.now.notes, c.requires.right.walk))

pub returns-clause-does : goal.returns-clause-does
returns-clause-does g c err =
    let documents = c.args.documents.now in
    let bracket = c.args.bracket.now in
    let right = c.requires.right.walk in
    let visits = hops_seen documents.deck documents.times documents.notes bracket.walk right in
    let out = spelled_out documents.deck documents.times documents.notes bracket.walk right in
    let waits = c.in_ok-waits.ensures (setting_of documents) visits refl out in
    let reached = walks.total_of bracket.walk in
    let totals = total_lines reached (total_of bracket.ceiling) in
    let kinds = flat_map (wait_line (entry_in documents.times) (walks.angle_of bracket.walk) visits) waits.0 in (
      rounds_waits_reply documents bracket visits waits.0,
      inr (c.requires.none, bracket, c.requires.right, (visits, out, waits.0, waits.1, refl)),
      no_line _ _,
      (
        subst (λ (text : List ℕ). GetsResult (g.O.Output.device c.args.out.now)
            (g.O.Output.device c.tell_rounds_waits.new.out)
            text Done c.tell_rounds_waits.result)
            (ap (λ (lines : List ℕ). lines ++ waited_line reached c.in_ok-waits.waits.waited ++ totals) waits.2
            ∙ ap (λ (waited : Waited). kinds ++ waited_line reached waited ++ totals) waits.3)
            c.tell_rounds_waits.ensures,
        refl,
      ),
    )
