use Rattle.std.proofs.Common.{◌≡◌, ℕ, inl, inr, refl}
use Rattle.read_decks.specs.InDeck.{loads_in, start_in}
use Rattle.flow_graph.specs.declared.refusal.Refusal.TheVariants as refusal
use Rattle.print_lines.specs.declared.limit.Limit.TheVariants as limit
use Rattle.program_limits.specs.Limits.{AreShort, HaveNoBound, IsBound}
use Rattle.program_limits.proofs.Limiting.{short_or_long}
use Rattle.proved_laws.proofs.documents.one_limit.Goals as goal

pub returns : goal.returns
returns c documents limit.Bound limit.Bound most least is other = refl
returns c documents limit.Ceiling limit.Ceiling most least is other = refl
returns c documents limit.Bound limit.Ceiling most least is other = absurd (never most is.1 is.0 other.0)
  where
    never : (most : ℕ) → IsBound documents most → AreShort documents → HaveNoBound documents → ⊥
    never most bound short (inr long) = short_or_long documents short long
    never most bound short (inl large) =
        let wrong : refusal.TooLarge large.1 ≡ refusal.Memory =
        c.accepted_is_not_refused.ensures (loads_in documents.deck) documents.notes (start_in documents.deck)
        bound.accepted.0 (refusal.TooLarge large.1) bound.accepted.1 large.2 in
        cc
returns c documents limit.Ceiling limit.Bound most least is other = absurd (never least other.1 other.0 is.0)
  where
    never : (least : ℕ) → IsBound documents least → AreShort documents → HaveNoBound documents → ⊥
    never least bound short (inr long) = short_or_long documents short long
    never least bound short (inl large) =
        let wrong : refusal.TooLarge large.1 ≡ refusal.Memory =
        c.accepted_is_not_refused.ensures (loads_in documents.deck) documents.notes (start_in documents.deck)
        bound.accepted.0 (refusal.TooLarge large.1) bound.accepted.1 large.2 in
        cc
