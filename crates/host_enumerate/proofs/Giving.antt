-- An ID is given to an endpoint.
use Rattle.host_enumerate.proofs.Prelude.{◌≡◌, ◌≢◌, ℕ, ◌*◌, ◌/◌, ◌%◌, ◌-◌, ◌≤◌, ◌<◌, false, List, [], ◌∷◌, ◌++◌, length, take, drop, get_or, Some, arith, sym, ap, subst, ◌∙◌, PortRef, is_switch, base_id-written, Topology, entered, onward, AllRegisters, IsAskable, IsApart, IsWritable, PassesOnce, Becomes, AreRouted, HasNewId}
use Rattle.host_enumerate.proofs.Entries.{Leaves, askable-written}
use Rattle.host_enumerate.proofs.Routing.{split}

-- the value that is written for an ID
abbrev pub value_of_id : ℕ → ℕ
value_of_id id = id * 65536 % 4294967296

id_of_value : (number id : ℕ) → number ≡ id → id < 255
    → value_of_id number / 0x10000 % 0x100 ≡ id
id_of_value number id is fits = ap (λ n. value_of_id n / 0x10000 % 0x100) is ∙ omega (arith, fits)

pub id-writable : (topology : Topology) (registers : AllRegisters) (path : List ℕ) (at : PortRef)
    {number id : ℕ} → number ≡ id → id < 255 → is_switch (registers at.node) ≡ false
    → IsApart topology path at.node → path ≢ []
    → IsWritable topology registers path at 0x60 (value_of_id number)
    (record (registers at.node) { base_id = id })
id-writable topology registers path at {number} {id} is fits kind apart away = record {
  written = base_id-written (registers at.node) (value_of_id number) kind
      ∙ ap (λ n. Some (record (registers at.node) { base_id = n })) (id_of_value number id is fits);
  apart = apart;
  id = λ empty. absurd (away empty);
}

pub id-left : (topology : Topology) (old new : AllRegisters) (path : List ℕ) {at : PortRef}
    {number id : ℕ} → Leaves topology old new path 0x60 (value_of_id number)
    → entered topology path ≡ Some at → number ≡ id → id < 255
    → is_switch (old at.node) ≡ false
    → Becomes old new at.node (record (old at.node) { base_id = id })
id-left topology old new path {at} {number} {id} leaves leads is fits kind =
    leaves at (record (old at.node) { base_id = id }) leads
    (base_id-written (old at.node) (value_of_id number) kind
    ∙ ap (λ n. Some (record (old at.node) { base_id = n })) (id_of_value number id is fits))

-- a path is its first port and the others
pub first_and_rest : {path slice front host : List ℕ} → slice ≡ path → 1 ≤ length slice
    → front ≡ onward host (get_or slice 0 0) → host ≡ []
    → (path ≡ get_or slice 0 0 ∷ take (length slice - 1) (drop 1 slice))
    × (front ≡ get_or slice 0 0 ∷ [])
first_and_rest {path} {slice} {front} {host} is some is_front is_host = (
  sym is ∙ split slice some,
  is_front ∙ ap (λ l. onward l (get_or slice 0 0)) is_host,
)

pub whole_path : {path front tail : List ℕ} {head : ℕ} → path ≡ head ∷ tail → front ≡ head ∷ []
    → path ≡ front ++ tail
whole_path {path} {front} {tail} {head} is is_front = is ∙ ap (λ l. l ++ tail) (sym is_front)

pub rest_askable : {topology now : Topology} {old : AllRegisters} (new : AllRegisters) {host_id : ℕ}
    (id : ℕ) {path : List ℕ} (front tail : List ℕ) {at : PortRef} → now ≡ topology
    → path ≡ front ++ tail → path ≢ []
    → IsAskable topology old host_id path at → IsApart topology path at.node
    → Becomes old new at.node (record (old at.node) { base_id = id })
    → IsAskable now new host_id (front ++ tail) at
rest_askable {topology} {now} {old} new {host_id} id {path} front tail {at} is_now is away askable
    apart becomes =
    subst (λ t. IsAskable t new host_id (front ++ tail) at) (sym is_now)
    (subst (λ l. IsAskable topology new host_id l at) is
    (askable-written new (record (old at.node) { base_id = id })
    askable becomes apart (λ empty. absurd (away empty))))

pub rest_once : {topology now : Topology} {path : List ℕ} (front tail : List ℕ) → now ≡ topology
    → path ≡ front ++ tail → PassesOnce topology path → PassesOnce now (front ++ tail)
rest_once {topology} {now} {path} front tail is_now is once =
    subst (λ t. PassesOnce t (front ++ tail)) (sym is_now)
    (subst (λ l. PassesOnce topology l) is once)

pub id-given : {topology now : Topology} (old : AllRegisters) {mid new : AllRegisters} {head : ℕ}
    (node : ℕ) {id : ℕ} {path front tail : List ℕ} → now ≡ topology → path ≡ head ∷ tail
    → front ≡ head ∷ []
    → Becomes old mid node (record (old node) { base_id = id })
    → AreRouted now mid new front tail id → HasNewId topology old new path node id
id-given {topology} {now} old {mid} {new} {head} node {id} {path} {front} {tail} is_now is is_front
    one others first rest same = (
      mid,
      one,
      subst (λ n. AreRouted topology mid new (n ∷ []) rest id) is_head
          (subst (λ l. AreRouted topology mid new (head ∷ []) l id) is_tail
          (subst (λ l. AreRouted topology mid new l tail id) is_front
          (subst (λ t. AreRouted t mid new front tail id) is_now others))),
    )
  where
    whole : head ∷ tail ≡ first ∷ rest
    whole = sym is ∙ same

    is_head : head ≡ first
    is_head = cc

    is_tail : tail ≡ rest
    is_tail = cc
