use Rattle.std.proofs.Common.{◌≡◌, ◌+◌, ℕ, List, Some, length, slice_get, slice_set, refl, sym, ap, subst, arith}
use Rattle.std.proofs.lemmas.Option.{slice_get_read}
use Rattle.fabric_ports.specs.Places.{place_of}
use Rattle.fabric_ports.specs.declared.fabric.Cable.{Cable}
use Rattle.fabric_ports.proofs.NumberLaws.{LeadFirst, lead_more, lead_all}
use Rattle.fabric_ports.proofs.plans.Plan.number_cables.Goals as goal

pub loop-number-preserved : goal.loop-number-preserved
loop-number-preserved c =
    let plan = c.args.self.now in
    let numbers = c.loop-number.numbers.items in
    let k = c.loop-number.number in
    let cable = c.cable-item.result in
    let read = c.deref-cable-items.result.now in
    let at = subst (λ (l : List Cable). slice_get l k ≡ Some cable)
    c.deref-cable-items.ensures.value
    (slice_get_read read (length read) k cable refl c.loop-number-test.true c.cable-item.is) in
    subst (λ (b : ℕ). LeadFirst plan (slice_set (slice_set numbers c.place.result k) b k) (k + 1))
    (sym c.place-in-loop-number.ensures.value)
    (subst (λ (a : ℕ). LeadFirst plan (slice_set (slice_set numbers a k)
    (place_of plan.firsts.items cable.b) k) (k + 1)) (sym c.place.ensures.value)
    (lead_more plan c.requires.plan c.requires.cables c.requires.proper numbers k cable at
    c.loop-number.invariant))

pub returns : goal.returns
returns c =
    let plan = c.args.self.now in
    let numbers = c.loop-number.numbers.items in
    let many = ap length c.deref-cable-items.ensures.value in
    let most = c.loop-number.auto.number-end in
    let test = c.loop-number-test.false in
    let all : c.loop-number.number ≡ length plan.cables.items = omega (arith, many, most, test) in
    lead_all plan numbers (subst (LeadFirst plan numbers) all c.loop-number.invariant)
