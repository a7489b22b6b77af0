-- The words that lack a list, as they are held, one finding more.
use Rattle.std.proofs.Common.{◌≡◌, ℕ, ◌<◌, List, [], ◌∷◌, ◌++◌, map, length, get_or, set, refl, ap, sym, ◌∙◌}
use Rattle.std.proofs.Common.{Some, arith}
use Rattle.std.specs.Prelude.{slice_get, Option}
use Rattle.std.specs.Option.{option_map}
use Rattle.std.proofs.lemmas.List.{length-map, map-set}
use Rattle.std.proofs.lemmas.Option.{get_or_from_slice_get, slice_get-get_or, slice_get-map, slice_get_within}
use Rattle.std.proofs.lemmas.Simd.{map-map}
use Rattle.base_words.specs.declared.location.Location.{Location}
use Rattle.check_findings.specs.declared.finding.Finding as held
use Rattle.check_findings.specs.declared.finding.Finding.TheVariants as finding
use Rattle.check_findings.specs.declared.unchanged_parts.UnchangedParts.{UnchangedParts}
use Rattle.check_findings.specs.Finding.{Finding, alters}
use Rattle.check_findings.specs.FindingOf.{seen}
use Rattle.check_findings.specs.UnchangedParts.{both_keep}
use Rattle.check_findings.specs.declared.lacking.Lack.{Lack}
use Rattle.check_findings.specs.Lacking.{altered_word, kept_in, words_altered}
use Rattle.check_findings.specs.LackingOf.{pair_of}
use Rattle.check_findings.proofs.Words.{at_places, none_more, places, there_more}

abbrev pub number_of : Lack → ℕ
number_of lack = lack.word.number

-- the numbers of the words are the places
pub same_places : (before : List Finding) (items : List Lack) → map pair_of items ≡ words_altered before
    → map number_of items ≡ places before
same_places before items are =
    sym (map-map (λ (lack : ℕ × UnchangedParts). lack.0) pair_of items)
    ∙ ap (map (λ (lack : ℕ × UnchangedParts). lack.0)) are ∙ at_places before

-- the word at a place
pub number_there : (items : List Lack) (k n : ℕ) (was : Lack) → slice_get (map number_of items) k ≡ Some n
    → was ≡ get_or items k was → number_of was ≡ n
number_there items k n was at here =
    let within : k < length items = omega (arith, slice_get_within (map number_of items) k n at, length-map items number_of) in
    let read : ◌≡◌ {A = Option ℕ} (Some (number_of was)) (Some n) =
    sym (slice_get-map number_of items k ∙ ap (option_map number_of) (slice_get-get_or items k was within ∙ ap Some (sym here)))
    ∙ at in
    cc

-- a word that is there, with what one more writer leaves of it
pub lack_met : (before : List Finding) (writer : ℕ) (word : Location) (kept left : UnchangedParts) (items : List Lack) (k : ℕ)
    (was : Lack) → slice_get (map number_of items) k ≡ Some word.number → was ≡ get_or items k was
    → left ≡ both_keep was.kept kept → map pair_of items ≡ words_altered before
    → map pair_of (set items k (record { word = word; kept = left }))
    ≡ words_altered (before ++ alters writer word.number kept ∷ [])
lack_met before writer word kept left items k was at here is are =
    let within : k < length items =
    omega (arith, slice_get_within (map number_of items) k word.number at, length-map items number_of) in
    let read : get_or (map pair_of items) k (pair_of was) ≡ pair_of was =
    get_or_from_slice_get (map pair_of items) k (pair_of was) (pair_of was)
    (slice_get-map pair_of items k ∙ ap (option_map pair_of) (slice_get-get_or items k was within ∙ ap Some (sym here))) in
    map-set pair_of items k (record { word = word; kept = left })
    ∙ ap (λ (one : UnchangedParts). set (map pair_of items) k (word.number, one))
    (is ∙ ap (λ (lack : ℕ × UnchangedParts). both_keep lack.1 kept) (sym read))
    ∙ there_more before writer word.number kept (map pair_of items) are k (pair_of was)
    (sym (ap (λ (ns : List ℕ). slice_get ns k) (same_places before items are)) ∙ at)

-- a finding that no word is altered
tells_none : (one : held.Finding)
    → ((writer word : Location) (kept : UnchangedParts) → one ≡ finding.Alters writer word kept → ⊥)
    → (altered_word (seen one) ≡ []) × ((word : ℕ) → kept_in word (seen one) ≡ [])
tells_none (finding.NotLoaded location) other = (refl, λ word. refl)
tells_none (finding.NotInProfile location op) other = (refl, λ word. refl)
tells_none (finding.Alters writer word kept) other = absurd (other writer word kept refl)
tells_none (finding.TooLarge product) other = (refl, λ word. refl)
tells_none (finding.Loop edge number) other = (refl, λ word. refl)
tells_none (finding.UnusedMark edge) other = (refl, λ word. refl)
tells_none (finding.UnusedList location) other = (refl, λ word. refl)
tells_none (finding.UnusedCall edge) other = (refl, λ word. refl)
tells_none (finding.Idle first last) other = (refl, λ word. refl)
tells_none (finding.Inside inner outer) other = (refl, λ word. refl)

pub other_more : (before : List Finding) (one : held.Finding)
    → ((writer word : Location) (kept : UnchangedParts) → one ≡ finding.Alters writer word kept → ⊥)
    → words_altered before ≡ words_altered (before ++ seen one ∷ [])
other_more before one other =
    let none = tells_none one other in
    none_more before (seen one) none.0 none.1
