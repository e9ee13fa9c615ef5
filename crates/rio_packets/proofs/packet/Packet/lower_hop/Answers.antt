use Rattle.std.proofs.Common.{◌≡◌, ℕ, ◌-◌, ◌==◌, List, set, get_or, length, take, drop, sym, ap, ◌∙◌, subst, length-set, take_at}
use Rattle.std.specs.List.{refill}
use Rattle.rio_packets.specs.LinkForm.{Passes}
use Rattle.rio_packets.specs.Hops.{message_ended, lowered}
use Rattle.rio_packets.specs.Fields.{tt_of, hop_place, crc_place, Lowered}
use Rattle.rio_packets.proofs.LowerLaws.{hop_known, Passes-lowered, Lowered-lowered}
use Rattle.rio_packets.proofs.packet.Packet.lower_hop.Goals as goal

-- what is written over the items
abbrev with_less : ℕ → List ℕ → List ℕ
with_less hop bytes = set bytes hop (get_or bytes hop 0 - 1)

-- what stands after the write, with its CRC made again
renewed : (old items now new : List ℕ) (hop crc type : ℕ) → items ≡ old → now ≡ items
    → hop ≡ hop_place old → crc ≡ crc_place old → type ≡ tt_of old
    → new ≡ message_ended (type == 1) (take crc (refill (length items) items (with_less hop now)))
    → new ≡ lowered old
renewed old items now new hop crc type first second at end kind is =
    let same : now ≡ old = second ∙ first in
    let less = with_less hop old in
    let size : length less ≡ length old = length-set old hop (get_or old hop 0 - 1) in
    let whole : refill (length items) items (with_less hop now) ≡ less =
    ap (λ (t : List ℕ). refill (length t) t (with_less hop now)) first
    ∙ ap (λ (t : List ℕ). refill (length old) old (with_less hop t)) same
    ∙ take_at less (drop (length less) old) (length old) size in
    is
    ∙ ap (λ (t : List ℕ). message_ended (type == 1) (take crc t)) whole
    ∙ ap (λ n. message_ended (type == 1) (take crc (with_less n old))) at
    ∙ ap (λ n. message_ended (type == 1) (take n (with_less (hop_place old) old))) end
    ∙ ap (λ n. message_ended (n == 1) (take (crc_place old) (with_less (hop_place old) old))) kind

pub returns-clause-value : goal.returns-clause-value
returns-clause-value c =
    renewed c.args.self.now c.self.inside.form.items c.deref_mut.result.now
    c.renew_crc.new.form.items c.hop_place-hop.result c.crc_place-crc.result c.tt-large.result
    c.self.view_is c.deref_mut.ensures.value c.hop_place-hop.ensures c.crc_place-crc.ensures
    c.tt-large.ensures.value c.renew_crc.ensures

pub invariant_of-self : goal.invariant_of-self
invariant_of-self c =
    let old = c.args.self.now in
    let known = hop_known old c.requires in
    let passing : Passes old = subst Passes c.self.view_is c.self.invariant in
    subst Passes (sym (returns-clause-value c)) (Passes-lowered old passing known.0 known.1)

pub returns-clause-lowers : goal.returns-clause-lowers
returns-clause-lowers c =
    let old = c.args.self.now in
    let known = hop_known old c.requires in
    let passing : Passes old = subst Passes c.self.view_is c.self.invariant in
    subst (Lowered old) (sym (returns-clause-value c))
    (Lowered-lowered old passing known.0 known.1)
