-- Of Scan::hop_at: the leaps of a location are its hops, one by one and in order, so the leap of a
-- number has the hop of that number; without leaps the hop is found among the hops themselves.
use Rattle.std.proofs.Common.{◌≡◌, ℕ, ◌<◌, ◌≤◌, List, length, get_or, Option, Some, Vec, Global, refl, ap, sym, ◌∙◌}
use Rattle.std.proofs.Common.{arith}
use Rattle.std.specs.Prelude.{slice_get}
use Rattle.std.specs.Option.{option_map}
use Rattle.std.proofs.lemmas.Option.{slice_get-map, slice_get_past, slice_get_read}
use Rattle.std.proofs.lemmas.Iterator.Consumers.{nth_from_yields_List, YieldsList-from_first}
use Rattle.flow_graph.specs.Hops.{Hop, hops}
use Rattle.flow_graph.specs.HopsLeft.{hops_left}
use Rattle.flow_graph.specs.Seen.{seen_hop}
use Rattle.bound_scan.specs.declared.leap.Leap.{Leap}
use Rattle.bound_scan.specs.declared.scan.Scan.{Scan}
use Rattle.bound_scan.specs.LeapOf.{leap_hop}
use Rattle.bound_scan.specs.ScanOf.{setting_in, order_of, size_in, IsScanned}
use Rattle.bound_scan.proofs.scan.Scan.hop_at.Goals as goal

-- where a location's leaps are kept, its hops are theirs
leaps_hop : {L : Type 0} (scan : Scan L) (taken index number place : ℕ) (leaps : Vec Leap Global) → IsScanned scan taken
    → slice_get scan.leaps.now index ≡ Some (Some leaps)
    → slice_get (order_of scan) index ≡ Some place
    → slice_get (hops (setting_in scan).loads (setting_in scan).notes place) number
    ≡ option_map leap_hop (slice_get leaps.items number)
leaps_hop scan taken index number place leaps is at there =
    ap (λ (hops : List Hop). slice_get hops number) (sym (is.leaps.each index place leaps there at).hops)
    ∙ slice_get-map leap_hop leaps.items number

-- the leaps of this index, as they were read
leaps_there : {L : Type 0} (scan : Scan L) (taken index : ℕ) (one : Option (Vec Leap Global)) (leaps : Vec Leap Global)
    → IsScanned scan taken → index < length (order_of scan)
    → one ≡ get_or scan.leaps.now index one → get_or scan.leaps.now index one ≡ Some leaps
    → slice_get scan.leaps.now index ≡ Some (Some leaps)
leaps_there scan taken index one leaps is inside read some =
    slice_get_read scan.leaps.now (length scan.leaps.now) index one refl (omega (arith, inside, is.leaps.long)) read
    ∙ ap (λ (o : Option (Vec Leap Global)). Some o) (read ∙ some)

pub returns-in_err-get-in-Some : goal.returns-in_err-get-in-Some
returns-in_err-get-in-Some g c = λ place there.
    let scan = c.args.self.now in
    let leaps = c.in-Some.leaps in
    let past : length leaps.items ≤ c.args.number =
    omega (
      arith,
      c.in_err-get-in-Some.ensures.lookup.3,
      ap (λ (all : List Leap). length all)
          c.deref.ensures.value,
    ) in
    leaps_hop scan (size_in scan) c.args.index c.args.number place leaps c.requires.done
    (leaps_there scan (size_in scan) c.args.index c.index-self-index.result leaps c.requires.done c.requires.there
    c.index-self-index.is c.in-Some.is) there
    ∙ ap (option_map leap_hop) (slice_get_past leaps.items c.args.number past)
    ∙ ap (option_map seen_hop) (sym c.from_residual.ensures)

pub returns-in_ok-get-in-Some : goal.returns-in_ok-get-in-Some
returns-in_ok-get-in-Some g c = λ place there.
    let scan = c.args.self.now in
    let leaps = c.in-Some.leaps in
    let looked = c.in_ok-get-in-Some.ensures.lookup in
    let at : slice_get leaps.items c.args.number ≡ Some c.in_ok-get-in-Some.field-0.now =
    ap (λ (all : List Leap). slice_get all c.args.number) (sym c.deref.ensures.value)
    ∙ slice_get_read c.deref.result.now (length c.deref.result.now) c.args.number c.in_ok-get-in-Some.field-0.now refl
    looked.3.0 looked.1 in
    leaps_hop scan (size_in scan) c.args.index c.args.number place leaps c.requires.done
    (leaps_there scan (size_in scan) c.args.index c.index-self-index.result leaps c.requires.done c.requires.there
    c.index-self-index.is c.in-Some.is) there
    ∙ ap (option_map leap_hop) at

pub returns-in-None : goal.returns-in-None
returns-in-None g c = λ place there.
    let scan = c.args.self.now in
    let g = setting_in scan in
    let same : c.node.result.location.number ≡ place =
    some_is c.node.result.location.number place (sym c.node.ensures.location ∙ there) in
    ap (λ (p : ℕ). slice_get (hops g.loads g.notes p) c.args.number) (sym same)
    ∙ sym (nth_from_yields_List c.nth.result c.nth.new.self c.args.number c.nth.ensures.ran
    (YieldsList-from_first seen_hop hops_left (hops g.loads g.notes c.node.result.location.number) c.node.ensures.hops))
  where
    some_is : (a b : ℕ) → Some a ≡ Some b → a ≡ b
    some_is a b e = cc
