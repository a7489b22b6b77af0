-- What is asked of a source, piece by piece.
use Rattle.std.proofs.Common.{◌≡◌, ℕ, ◌+◌, List, ◌∷◌, ◌++◌, Option, Some, None, []}
use Rattle.std.proofs.Common.{refl, inl, inr, ap, sym, ◌∙◌, subst, append_assoc}
use Rattle.std.proofs.Common.{append-nil}
use Rattle.print_lines.specs.declared.fault.Fault.{Fault}
use Rattle.print_lines.specs.declared.part.Part as parts
use Rattle.print_lines.specs.FaultStatus.{reads_failed}
use Rattle.read_documents.specs.Asked.{AreLookedAt, AreLookedAtUpTo, Asked, AsksFor, IsLookedAt, IsOfText}
use Rattle.read_documents.specs.Asked.{NamedFile}
use Rattle.read_documents.specs.Files.{AreTold, FilesTold, Contents, behind}

-- what is asked is also something else
pub asks_as : (before after : Option (List Asked)) (P Q : List Asked → Type 0)
    → ((asked : List Asked) → P asked → Q asked) → AsksFor before after P → AsksFor before after Q
asks_as before None P Q f asks = tt
asks_as None (Some all) P Q f asks = absurd asks
asks_as (Some earlier) (Some all) P Q f asks = (asks.0, asks.1, f asks.0 asks.2)

-- one thing is asked for, and then another
pub asks_then : (before between after : Option (List Asked)) (P Q R : List Asked → Type 0)
    → ((first later : List Asked) → P first → Q later → R (first ++ later))
    → AsksFor before between P → AsksFor between after Q → AsksFor before after R
asks_then before between None P Q R f first later = tt
asks_then before None (Some all) P Q R f first later = absurd later
asks_then None (Some middle) (Some all) P Q R f first later = absurd first
asks_then (Some earlier) (Some middle) (Some all) P Q R f first later =
    let same : all ≡ earlier ++ (first.0 ++ later.0) =
    later.1 ∙ ap (λ (m : List Asked). m ++ later.0) first.1 ∙ append_assoc earlier first.0 later.0 in
    (first.0 ++ later.0, same, f first.0 later.0 first.2 later.2)

-- ---- one file

-- a text that was read is refused
pub refused_later : (of : parts.Part) (name : List ℕ) (told : Fault) → reads_failed told ≡ 0
    → IsOfText of (Some told) → (asked : List Asked) → IsLookedAt of name None asked
    → IsLookedAt of name (Some told) asked
refused_later of name told none own asked (inl is) = absurd (let bad = is.0 in cc)
refused_later of name told none own asked (inr is) = inr (
  own,
  is.1,
  record {
    failures = is.2.failures ∙ sym none;
    idle = is.2.idle;
    calls = is.2.calls;
    each = is.2.each;
    ends = is.2.ends;
    bytes = is.2.bytes;
    full = is.2.full;
    whole = elim is.2.whole [
      | inl met ↦ inl met
      | inr (inl past) ↦ inr (inl past)
      | inr (inr (inl failed)) ↦ inr (inr (inl failed))
      | inr (inr (inr wants)) ↦ absurd wants
    ];
  },
  is.3,
)

-- ---- a text

-- ---- the files of a command

-- nothing is wrong with one file, and the others come to this
pub looked_well : (one : NamedFile) (others : List NamedFile) (before between after : Option (List Asked))
    → AsksFor before between (IsLookedAt one.part one.name None) → AsksFor between after (AreLookedAt others)
    → AsksFor before after (AreLookedAt (one ∷ others))
looked_well one others before between after first later =
    asks_then before between after _ _ _ (λ asked more is are. (asked, more, refl, is, are)) first later

pub looked_first : (one : NamedFile) (others : List NamedFile) (told : Fault) (before between after : Option (List Asked))
    → AsksFor before between (IsLookedAt one.part one.name None) → AsksFor between after (AreLookedAtUpTo others told)
    → AsksFor before after (AreLookedAtUpTo (one ∷ others) told)
looked_first one others told before between after first later =
    asks_then before between after _ _ _ (λ asked more is are. inr (asked, more, refl, is, are)) first later

-- one is the last, or has the fault
pub looked_last : (one : NamedFile) (before after : Option (List Asked))
    → AsksFor before after (IsLookedAt one.part one.name None) → AsksFor before after (AreLookedAt (one ∷ []))
looked_last one before after asks =
    asks_as before after _ _ (λ asked is. (asked, [], sym (append-nil asked), is, refl)) asks

pub looked_faulty : (one : NamedFile) (others : List NamedFile) (told : Fault) (before after : Option (List Asked))
    → AsksFor before after (IsLookedAt one.part one.name (Some told))
    → AsksFor before after (AreLookedAtUpTo (one ∷ others) told)
looked_faulty one others told before after asks = asks_as before after _ _ (λ asked is. inl is) asks

-- other files come behind
well_then : (files others : List NamedFile) (first later : List Asked) → AreLookedAt files first → AreLookedAt others later
    → AreLookedAt (files ++ others) (first ++ later)
well_then [] others first later are is =
    subst (λ (asked : List Asked). AreLookedAt others (asked ++ later)) (sym are) is
well_then (file ∷ files) others first later are is = (
  are.0,
  are.1 ++ later,
  ap (λ (asked : List Asked). asked ++ later) are.2 ∙ append_assoc are.0 are.1 later,
  are.3,
  well_then files others are.1 later are.4 is,
)

upto_then : (files others : List NamedFile) (told : Fault) (first later : List Asked) → AreLookedAt files first
    → AreLookedAtUpTo others told later → AreLookedAtUpTo (files ++ others) told (first ++ later)
upto_then [] others told first later are is =
    subst (λ (asked : List Asked). AreLookedAtUpTo others told (asked ++ later)) (sym are) is
upto_then (file ∷ files) others told first later are is = inr (
  are.0,
  are.1 ++ later,
  ap (λ (asked : List Asked). asked ++ later) are.2 ∙ append_assoc are.0 are.1 later,
  are.3,
  upto_then files others told are.1 later are.4 is,
)

upto_more : (files others : List NamedFile) (told : Fault) (asked : List Asked) → AreLookedAtUpTo files told asked
    → AreLookedAtUpTo (files ++ others) told asked
upto_more [] others told asked are = absurd are
upto_more (file ∷ files) others told asked (inl is) = inl is
upto_more (file ∷ files) others told asked (inr are) =
    inr (are.0, are.1, are.2, are.3, upto_more files others told are.1 are.4)

module _ (files others : List NamedFile) (before between after : Option (List Asked)) where
  pub all_well : AsksFor before between (AreLookedAt files) → AsksFor between after (AreLookedAt others)
      → AsksFor before after (AreLookedAt (files ++ others))
  all_well first later = asks_then before between after _ _ _ (well_then files others) first later

  pub last_faulty : (told : Fault) → AsksFor before between (AreLookedAt files)
      → AsksFor between after (AreLookedAtUpTo others told)
      → AsksFor before after (AreLookedAtUpTo (files ++ others) told)
  last_faulty told first later = asks_then before between after _ _ _ (upto_then files others told) first later

  pub earlier_faulty : (told : Fault) → AsksFor before after (AreLookedAtUpTo files told)
      → AsksFor before after (AreLookedAtUpTo (files ++ others) told)
  earlier_faulty told asks = asks_as before after _ _ (upto_more files others told) asks

-- where files are told, the first of them are
pub first_told : (told_of : FilesTold) (held : Contents) (files others : List NamedFile)
    → AreTold told_of held (files ++ others) → AreTold told_of held files
first_told told_of held [] others told = tt
first_told told_of held (one ∷ files) others told = (told.0, first_told (behind told_of) held files others told.1)
