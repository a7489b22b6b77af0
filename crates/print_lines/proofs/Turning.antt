-- What a sheet holds back goes out.
use Rattle.std.proofs.Common.{◌≡◌, ℕ, ◌+◌, ◌<◌, List, [], ◌++◌, length, take, append_assoc, append-nil, length-append}
use Rattle.std.proofs.Common.{sym, ap, ◌∙◌, subst, arith, true, false, Result, Ok, Err}
use Rattle.std.specs.Prelude.{OnOk, IfErr, is_err}
use Rattle.std.specs.Io.KnownBytes.{Appends}
use Rattle.base_devices.specs.declared.whole.Unsent.{Unsent}
use Rattle.base_devices.specs.Device.{Device, failures_after, one_more}
use Rattle.base_devices.proofs.Bytes.{Appends-then, take_behind}
use Rattle.print_lines.specs.declared.sheet.Sheet.{Sheet}
use Rattle.print_lines.specs.Stands.{IsCut, IsUnderWay, Passes, Stands, counted, gone_of, held_by}

-- how a text stands where a write has failed, and where none has
when_lost : (begun now : Device) (sheet : Sheet) (text : List ℕ) → sheet.is_lost ≡ true → IsCut begun now sheet text
    → Stands begun now sheet text
when_lost begun now sheet text lost p = rw lost p

when_not : (begun now : Device) (sheet : Sheet) (text : List ℕ) → sheet.is_lost ≡ false
    → IsUnderWay begun now sheet text → Stands begun now sheet text
when_not begun now sheet text lost p = rw lost p

is_under_way : (begun now : Device) (sheet : Sheet) (text : List ℕ) → sheet.is_lost ≡ false
    → Stands begun now sheet text → IsUnderWay begun now sheet text
is_under_way begun now sheet text lost p = rw lost at p

-- a whole text is what has gone out, what was held back, and what is behind them
whole : (gone held more text : List ℕ) → gone ++ held ≡ text → gone ++ (held ++ more) ≡ text ++ more
whole gone held more text p = sym (append_assoc gone held more) ∙ ap (λ xs. xs ++ more) p

-- nothing is held back
none_held : (sheet : Sheet) → sheet.held ≡ 0 → held_by sheet ≡ []
none_held sheet none = ap (λ n. take n sheet.bytes) none

-- what was held back was written, and more behind it
written_passes : (before after : Device) (sheet sheet' : Sheet) (more : List ℕ) (result : Result (Unit {0}) Unsent)
    → sheet.is_lost ≡ false
    → OnOk result (Appends before.written after.written (held_by sheet ++ more))
    → IfErr result (λ error. Appends before.written after.written (take error.sent (held_by sheet ++ more)))
    → IfErr result (λ error. error.sent < length (held_by sheet ++ more))
    → after.failures ≡ failures_after result before.failures
    → sheet'.held ≡ 0 → sheet'.sent ≡ counted (sheet.sent + gone_of (length (held_by sheet ++ more)) result)
    → sheet'.is_lost ≡ is_err result
    → Passes before sheet after sheet' more
written_passes before after sheet sheet' more (Ok done) lost all prefix some failures none sent lost' = record {
  stands = λ begun text so_far.
      let p = is_under_way begun before sheet text lost so_far in
      let held = held_by sheet in
      when_not begun after sheet' (text ++ more) lost' (
        p.0 ++ (held ++ more),
        (Appends-then begun.written before.written after.written p.0 (held ++ more) p.1.0 all, failures ∙ p.1.1),
        ap (λ xs. (p.0 ++ (held ++ more)) ++ xs) (none_held sheet' none) ∙ append-nil (p.0 ++ (held ++ more))
            ∙ whole p.0 held more text p.2,
        omega (arith, sent, p.3, length-append p.0 (held ++ more)),
      );
}
written_passes before after sheet sheet' more (Err error) lost all prefix some failures none sent lost' = record {
  stands = λ begun text so_far.
      let p = is_under_way begun before sheet text lost so_far in
      let held = held_by sheet in
      let is = whole p.0 held more text p.2 in
      when_lost begun after sheet' (text ++ more) lost' (
        length p.0 + error.sent,
        omega (arith, some, ap length is, length-append p.0 (held ++ more)),
        subst (λ xs. Appends begun.written after.written (take (length p.0 + error.sent) xs)) is
            (subst (Appends begun.written after.written) (sym (take_behind error.sent p.0 (held ++ more)))
            (Appends-then begun.written before.written after.written p.0 (take error.sent (held ++ more)) p.1.0 prefix)),
        failures ∙ ap one_more p.1.1,
        omega (arith, sent, p.3),
      );
}

-- what was held back was written, and nothing else
pub turned_by : (before after : Device) (sheet sheet' : Sheet) (result : Result (Unit {0}) Unsent)
    → sheet.is_lost ≡ false
    → OnOk result (Appends before.written after.written (held_by sheet))
    → IfErr result (λ error. Appends before.written after.written (take error.sent (held_by sheet)))
    → IfErr result (λ error. error.sent < length (held_by sheet))
    → after.failures ≡ failures_after result before.failures
    → sheet'.held ≡ 0 → sheet'.sent ≡ counted (sheet.sent + gone_of (length (held_by sheet)) result)
    → sheet'.is_lost ≡ is_err result
    → Passes before sheet after sheet' []
turned_by before after sheet sheet' result lost =
    let P : List ℕ → Type 0 = λ xs. (OnOk result (Appends before.written after.written xs)
    → IfErr result (λ error. Appends before.written after.written (take error.sent xs))
    → IfErr result (λ error. error.sent < length xs)
    → after.failures ≡ failures_after result before.failures
    → sheet'.held ≡ 0 → sheet'.sent ≡ counted (sheet.sent + gone_of (length xs) result)
    → sheet'.is_lost ≡ is_err result
    → Passes before sheet after sheet' []) in
    subst P (append-nil (held_by sheet)) (written_passes before after sheet sheet' [] result lost)

-- other bytes were written, where nothing was held back
pub passed_by : (before after : Device) (sheet sheet' : Sheet) (more : List ℕ) (result : Result (Unit {0}) Unsent)
    → sheet.is_lost ≡ false → sheet.held ≡ 0
    → OnOk result (Appends before.written after.written more)
    → IfErr result (λ error. Appends before.written after.written (take error.sent more))
    → IfErr result (λ error. error.sent < length more)
    → after.failures ≡ failures_after result before.failures
    → sheet'.held ≡ 0 → sheet'.sent ≡ counted (sheet.sent + gone_of (length more) result)
    → sheet'.is_lost ≡ is_err result
    → Passes before sheet after sheet' more
passed_by before after sheet sheet' more result lost none =
    let P : List ℕ → Type 0 = λ xs. (OnOk result (Appends before.written after.written xs)
    → IfErr result (λ error. Appends before.written after.written (take error.sent xs))
    → IfErr result (λ error. error.sent < length xs)
    → after.failures ≡ failures_after result before.failures
    → sheet'.held ≡ 0 → sheet'.sent ≡ counted (sheet.sent + gone_of (length xs) result)
    → sheet'.is_lost ≡ is_err result
    → Passes before sheet after sheet' more) in
    subst P (ap (λ (held : List ℕ). held ++ more) (none_held sheet none))
    (written_passes before after sheet sheet' more result lost)
