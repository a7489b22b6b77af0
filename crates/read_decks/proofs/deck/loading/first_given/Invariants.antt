use Rattle.std.proofs.Common.{◌≡◌, ◌+◌, ℕ, ◌<◌, ◌≤◌, slice_get, Some, None}
use Rattle.read_decks.proofs.deck.loading.first_given.Given as goal

-- no location so far has a word
abbrev pub invariant-loop-place : goal.invariant-loop-place
invariant-loop-place l = (n : ℕ) → l.first ≤ n → n < l.first + l.place → slice_get l.image n ≡ Some None
