-- Of bound_of_files: the source tells what the files of these names hold. The status Done shows
-- that no fault was told, so by the contract of `run` the line that went out is that of the bound
-- of what they hold.
use Rattle.std.proofs.Common.{◌≡◌, ℕ, ◌+◌, List, None, Some, ap, sym, ◌∙◌, subst, inl, inr, arith}
use Rattle.print_lines.specs.declared.status.Status.TheVariants.{Done, Failed}
use Rattle.print_lines.specs.Output.{Tells}
use Rattle.print_lines.specs.Reply.{Reply}
use Rattle.caller.specs.MemoryFiles.{text_of}
use Rattle.caller.specs.declared.memory_files.File.{File}
use Rattle.print_lines.specs.declared.part.Part.TheVariants as part
use Rattle.read_documents.specs.Files.{Contents}
use Rattle.caller.proofs.memory_files.bound_of_files.Goals as goal

-- what the files of these names hold
abbrev held_by : List File → List ℕ → List ℕ → List ℕ → Contents
held_by files deck times notes part.Deck = text_of files deck
held_by files deck times notes part.Times = text_of files times
held_by files deck times notes part.Notes = text_of files notes
held_by files deck times notes _ = None

pub returns : goal.returns
returns g c = record {
  printed = λ done.
      let told = c.run.ensures.told in
      let failures = c.run.new.input.failures + c.run.new.source.failures in
      let so = told.2 failures (omega (arith, c.new-input.ensures.failures, c.of-source.ensures.failures)) in
      let held = held_by c.args.files.now c.args.deck.now c.args.times.now c.args.notes.now in
      let told_of = λ (sought : ℕ) (name : List ℕ). Some (text_of c.of-source.result.files.now name) in
      let same = λ (name : List ℕ). ap (λ (files : List File). Some (text_of files name)) c.of-source.ensures.files in
      let out = g.O.Output.device c.args.out.now in
      let out' = g.O.Output.device c.run.new.out in
      let err = g.E.Output.device c.args.err.now in
      let err' = g.E.Output.device c.run.new.err in
      let tells = λ (reply : Reply). Tells reply out out' err err' c.run.result in
      elim (c.bound_is_of_the_files.ensures c.args.deck.now c.args.times.now c.args.notes.now None told_of failures told.0 held
      c.requires (same c.args.deck.now, (same c.args.times.now, (same c.args.notes.now, tt))) so.1) [
        | inl (bound, is, line) ↦
            let gets = subst tells line told.1 in
            elim gets.0 [
              | inl (all, ends) ↦ (bound, is, all.0, all.1)
              | inr (part, ends) ↦ absurd (let clash : Failed ≡ Done = sym ends ∙ done in cc)
            ]
        | inr (fault, line) ↦
            let gets = subst tells line told.1 in absurd (c.no_fault_is_done.ensures fault (sym gets.2 ∙ done))
      ];
}
