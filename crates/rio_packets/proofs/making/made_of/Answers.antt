use Rattle.std.proofs.Common.{◌≡◌, ℕ, ◌+◌, ◌-◌, ◌<◌, Bool, true, false, List, ◌++◌, min, length, refl, ap, ◌∙◌, sym, subst, take, drop, arith, if◌then◌else◌}
use Rattle.std.proofs.lemmas.List.{take_min, drop_min}
use Rattle.std.proofs.lemmas.List.Elements.{All-from_get_or}
use Rattle.rio_packets.specs.LinkForm.{padded, LinkForm}
use Rattle.rio_packets.specs.Fields.{body_of}
use Rattle.rio_packets.specs.Making.{made}
use Rattle.rio_packets.proofs.FormLaws.{LinkForm-made, Passes-from_form}
use Rattle.rio_packets.proofs.MakingLaws.{made_in_steps, body_of-append, IsBody-body_of}
use Rattle.rio_packets.proofs.making.made_of.Goals as goal

abbrev body : goal.After-pad → List ℕ
body c =
    body_of c.args.header.now.prio c.args.header.now.ftype c.args.header.now.large
    c.args.header.now.dest c.args.header.now.source c.args.rest.now

room_left : (large : Bool) (n : ℕ) → n ≡ (if large then 6 else 4) → n + (80 - n) ≡ 80
room_left false n e = omega arith
room_left true n e = omega arith

-- what the steps leave is the link form of the body
form : (c : goal.After-pad) → LinkForm (body c) c.pad.new.self.bytes.items
form c =
    let h = c.args.header.now in
    let rest = c.args.rest.now in
    let head = c.draft-draft.result.bytes.items in
    let n = 80 - length head in
    let range = All-from_get_or (λ b. b < 256) rest 0 (λ i _. omega (arith, c.type_inv.rest i)) in
    let is_body =
    IsBody-body_of h.prio h.ftype h.large h.dest h.source rest c.requires.prio c.requires.ftype
    c.draft-draft.ensures.dest c.draft-draft.ensures.source c.requires.dest c.requires.source range
    c.requires.even c.requires.most in
    let size = room_left h.large (length head) c.draft-draft.ensures.len in
    let least : c.min.result ≡ min n (length rest) = omega arith in
    let front : c.split_at.result.0.now ≡ take n rest =
    c.split_at.ensures.front ∙ ap (λ i. take i rest) least ∙ take_min n rest in
    let back : c.split_at.result.1.now ≡ drop n rest =
    c.split_at.ensures.back ∙ ap (λ i. drop i rest) least ∙ drop_min n rest in
    let steps =
    made_in_steps head rest c.split_at.result.0.now c.split_at.result.1.now head
    c.push.new.self.bytes.items c.push_crc.new.self.bytes.items n
    size front back refl c.push.ensures.items c.push_crc.ensures.items in
    let together : head ++ rest ≡ body c =
    ap (λ t. t ++ rest) c.draft-draft.ensures.items
    ∙ body_of-append h.prio h.ftype h.large h.dest h.source rest in
    let whole : c.pad.new.self.bytes.items ≡ made (body c) =
    c.pad.ensures ∙ ap padded c.push_more.ensures.items ∙ steps ∙ ap made together in
    subst (LinkForm (body c)) (sym whole) (LinkForm-made (body c) is_body)

pub invariant_of-result : goal.invariant_of-result
invariant_of-result c = Passes-from_form (body c) c.pad.new.self.bytes.items (form c)

pub returns : goal.returns
returns c = form c
