-- The moments of a step are those of a chain of clockworks, so they keep to the laws of one.
use Rattle.std.proofs.Common.{◌≡◌, ℕ, ◌+◌, ◌*◌, ◌^◌, ◌≤◌, ◌≢◌, Bool, true, false, if◌then◌else◌, Some, None, refl, ap}
use Rattle.std.proofs.Common.{◌∙◌, inl, inr, arith}
use Rattle.std.proofs.Math.Nat.{mul-le-mul_left}
use Rattle.std.proofs.lemmas.Bool.{le-ltb, ne_eqb, cases_lt}
use Rattle.base_words.specs.declared.location.Kind.{Kind}
use Rattle.base_words.specs.declared.location.Kind.TheVariants.{Upper}
use Rattle.base_words.specs.declared.location.Location.{Location}
use Rattle.base_words.specs.declared.op.Op.{Op}
use Rattle.base_words.specs.declared.parity.Parity.{Parity}
use Rattle.machine_rotation.specs.Available.{has_parity, is_had, is_available}
use Rattle.base_words.specs.Kind.{kind_of}
use Rattle.base_words.specs.Location.{IsLocation}
use Rattle.machine_rotation.specs.Moment.{first}
use Rattle.machine_rotation.specs.Span.{kind_span-≤, parity_span-≤}
use Rattle.machine_rotation.specs.Waits.{available_recurs}
use Rattle.machine_rotation.proofs.Waited.{first_again}
use Rattle.machine_rotation.proofs.Clockworks.{Clockworks, KeepsTime, keeps_time, seek_clockworks, parity_clockworks}
use Rattle.machine_rotation.proofs.Clockworks.{delay_clockworks, optional_clockworks, then_clockworks}
use Rattle.base_notes.specs.declared.entry.Entry.{Entry}
use Rattle.machine_steps.specs.Timing.{found, ready, waits_for_operand, reached, ended, longest_step}

-- a clockwork with these moments, by their clocks, that takes `most` word times at most
record GoesTo (kind : Clockworks) (moment : ℕ → ℕ) (most : ℕ) : Type 0 where
  pub clockwork : kind.row.Denot
  pub same : (t : ℕ) → kind.ghosts.moment clockwork t ≡ moment t
  pub short : kind.ghosts.most clockwork ≤ most

-- its moments, and others that are the same, keep to the laws
keeps : {kind : Clockworks} {moment : ℕ → ℕ} {most : ℕ} → GoesTo kind moment most → (other : ℕ → ℕ) (limit : ℕ)
    → ((t : ℕ) → moment t ≡ other t) → most ≤ limit
    → KeepsTime other limit
keeps {kind} goes other limit same short =
    keeps_time kind goes.clockwork other limit (λ t. goes.same t ∙ same t) (omega (arith, goes.short, short))

-- one and then the other
chained : {a b : Clockworks} {f g : ℕ → ℕ} {m n : ℕ} → GoesTo a f m → GoesTo b g n → m + n ≤ 2 ^ 40
    → GoesTo (then_clockworks a b) (λ t. g (f t)) (m + n)
chained {a} {b} {f} {g} one other limited =
    let spans : a.ghosts.most one.clockwork + b.ghosts.most other.clockwork ≤ 2 ^ 40 =
    omega (arith, one.short, other.short, limited) in
    let both : (then_clockworks a b).row.Denot =
    record { first = one.clockwork; second = other.clockwork; limited = spans } in
    record {
      clockwork = both;
      same = λ t. ap (b.ghosts.moment other.clockwork) (one.same t) ∙ other.same (f t);
      short = omega (arith, one.short, other.short);
    }

delays : (n : ℕ) → n ≤ 2 ^ 40 → GoesTo delay_clockworks (λ t. t + n) n
delays n limited =
    let delay : delay_clockworks.row.Denot = record { word_times = n; limited = limited } in
    record { clockwork = delay; same = λ t. refl; short = omega arith }

parities : (parity : Parity) → GoesTo parity_clockworks (first (has_parity parity)) 1
parities parity =
    let at : parity_clockworks.row.Denot = record { parity = parity } in
    record { clockwork = at; same = λ t. refl; short = parity_span-≤ parity }

-- a number of no location counts as 8003's
had_as_upper : (n : ℕ) → 2000 ≤ n → n ≢ 8000 → n ≢ 8001 → n ≢ 8002 → is_available 8003 ≡ is_available n
had_as_upper n past switches distributor lower =
    let upper : Upper ≡ kind_of n =
    rw (le-ltb n 2000 past, ne_eqb n 8000 switches, ne_eqb n 8001 distributor, ne_eqb n 8002 lower) refl in
    ap (λ (kind : Kind). is_had kind n) upper

seeks_location : (n : ℕ) → IsLocation n → GoesTo seek_clockworks (found n) 49
seeks_location n exists =
    let place : Location = record { number = n; exists = exists } in
    let seek : seek_clockworks.row.Denot = record { location = place } in
    record { clockwork = seek; same = λ t. refl; short = kind_span-≤ (kind_of n) }

seeks_none : (n : ℕ) → 2000 ≤ n → n ≢ 8000 → n ≢ 8001 → n ≢ 8002 → GoesTo seek_clockworks (found n) 49
seeks_none n past switches distributor lower =
    let upper : GoesTo seek_clockworks (found 8003) 49 = seeks_location 8003 (omega arith, λ h. omega arith) in
    record {
      clockwork = upper.clockwork;
      same =
          λ t. upper.same t ∙ ap (λ (had : ℕ → Bool). first had t) (had_as_upper n past switches distributor lower);
      short = upper.short;
    }

-- the search for a word
seeks : (n : ℕ) → GoesTo seek_clockworks (found n) 49
seeks n =
    elim (cases_lt n 2000) [
      | inl drum ↦ seeks_location n (omega arith, λ h. absurd (omega arith))
      | inr past ↦
          elim (cases_lt n 8000) [
            | inl between ↦ seeks_none n past (λ h. omega arith) (λ h. omega arith) (λ h. omega arith)
            | inr beside ↦
                elim (cases_lt n 8004) [
                  | inl within ↦ seeks_location n (within, λ h. beside)
                  | inr beyond ↦ seeks_none n past (λ h. omega arith) (λ h. omega arith) (λ h. omega arith)
                ]
          ]
    ]

-- the search for an operand, where there is one
operands : (op : Op) (d : ℕ) → GoesTo (optional_clockworks seek_clockworks) (reached op d) 49
operands op d = go (waits_for_operand op)
  where
    go : (waits : Bool) → GoesTo (optional_clockworks seek_clockworks) (λ x. if waits then found d x else x) 49
    go true = let seek = seeks d in record { clockwork = Some seek.clockwork; same = seek.same; short = seek.short }
    go false = record { clockwork = None; same = λ t. refl; short = omega arith }

-- a step up to x
to_x : (entry : Entry) (place : ℕ)
    → GoesTo (then_clockworks seek_clockworks delay_clockworks) (ready entry place) (49 + entry.before)
to_x entry place =
    chained (seeks place) (delays entry.before (omega (arith, entry.short_before))) (omega (arith, entry.short_before))

-- The moments at which a word is found.
pub found_keeps_time : (n : ℕ) → KeepsTime (found n) 49
found_keeps_time n = keeps (seeks n) (found n) 49 (λ t. refl) (omega arith)

module _ (entry : Entry) (place : ℕ) where
  -- The moments x of a step.
  pub ready_keeps_time : KeepsTime (ready entry place) longest_step
  ready_keeps_time =
      keeps (to_x entry place) (ready entry place) longest_step (λ t. refl) (omega (arith, entry.short_before))

  -- A search that begins when the instruction is found is over at once.
  pub ready_from_found : (t : ℕ) → ready entry place (found place t) ≡ ready entry place t
  ready_from_found t = ap (λ (f : ℕ). f + entry.before) (first_again (available_recurs place) t)

  module _ (op : Op) (d units wait : ℕ) where
    -- The moments e of a step, whose work is short.
    pub ended_keeps_time : entry.per * units + wait ≤ 90000000
        → KeepsTime (ended entry op d place units wait) longest_step
    ended_keeps_time work =
        let acts = chained (operands op d) (parities entry.parity) (omega arith) in
        let last = delays (entry.after + (entry.per * units + wait)) (omega (arith, work, entry.short_after)) in
        let from_x = chained acts last (omega (arith, work, entry.short_after)) in
        let whole = chained (to_x entry place) from_x (omega (arith, work, entry.short_before, entry.short_after)) in
        keeps whole (ended entry op d place units wait) longest_step (λ t. omega arith)
        (omega (arith, work, entry.short_before, entry.short_after))

    pub ended_from_found : (t : ℕ)
        → ended entry op d place units wait (found place t) ≡ ended entry op d place units wait t
    ended_from_found t =
        ap (λ (x : ℕ). first (has_parity entry.parity) (reached op d x) + entry.after + entry.per * units + wait)
        (ready_from_found t)

    -- More units and a longer wait are a longer delay, behind all else.
    pub ended_grows : (more longer t : ℕ) → units ≤ more → wait ≤ longer
        → ended entry op d place units wait t ≤ ended entry op d place more longer t
    ended_grows more longer t u w = omega (arith, mul-le-mul_left entry.per u, w)
