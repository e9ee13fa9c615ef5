-- A walker that takes in its own host first.
use Rattle.contest_machine.proofs.Prelude.{◌≡◌, ◌≢◌, ℕ, ◌*◌, ◌<◌, Bool, List, [], ◌∷◌, ◌++◌, Some, arith, ◌⊎◌, inl, inr, subst, sym, refl, ap, ◌∙◌, unwrap_or, cases_eq, same_Some, port_at, Registers, Endpoint, Topology, IsTopology, AllRegisters, Fits, Contains-first, Write, answered, registers_with, IsTakable, met_as, IsMember, PendingWrite, Stage, Ask, Claim, Check, Test, Features, Information, Status, Free, Done, Lost, Walker, write, taken, numbered, base_id-written, tag-written, begins, not_in_empty, AreOwnUntagged, counted-none, with_device-at, with_device-other, IsTaken, underway-host, own_id}
use Rattle.contest_machine.proofs.Numbering.OnWay.{performed, taken_as, IsOnWay, not_foreign}
use Rattle.contest_machine.proofs.Numbering.Settling.{performed-one, device_after}
use Rattle.contest_machine.proofs.Numbering.Along.{IsAlong}

-- a walker that has taken in nothing yet
abbrev pub starter : Topology → ℕ → Bool → Stage → List PendingWrite → Walker
starter view id begun stage todo = record {
  view = view;
  id = id;
  begun = begun;
  devices = [];
  next = 0;
  path = [];
  tried = [];
  todo = todo;
  stage = stage;
}

-- no device that bears its ID has a tag, its host's aside
abbrev pub AreOthersUntagged : Topology → AllRegisters → ℕ → Type 0
AreOthersUntagged view now id = (node : ℕ) → node < view.nodes → node ≢ view.host
    → (now node).lock ≡ id → (now node).tag ≡ 0

abbrev pub StartKnows : Walker → AllRegisters → Stage → Type 0
StartKnows w now Ask = (w.todo ≡ []) × AreOwnUntagged w.view now w.id
StartKnows w now Claim = (w.todo ≡ []) × AreOwnUntagged w.view now w.id
StartKnows w now Check = (w.todo ≡ []) × AreOthersUntagged w.view now w.id
StartKnows w now Test = (w.todo ≡ []) × AreOwnUntagged w.view now w.id
StartKnows w now Features = IsOnWay w now
StartKnows w now Information = ⊥
StartKnows w now Status = ⊥
StartKnows w now Free = ⊥
StartKnows w now Done = ⊥
StartKnows w now Lost = ⊥

pub record IsStarting (w : Walker) (now : AllRegisters) : Type 0 where
  pub is : w ≡ starter w.view w.id w.begun w.stage w.todo
  pub knows : StartKnows w now w.stage

module _ (view : Topology) (id : ℕ) (begun : Bool) (now : AllRegisters) (proper : IsTopology view)
    (shown : Fits view now) (fits : id < 0xff) where
  abbrev host : ℕ
  host = view.host

  abbrev was : ℕ → Registers
  was lock = record (now view.host) { base_id = id; lock = lock }

  abbrev before_it : ℕ → AllRegisters
  before_it lock = registers_with now view.host (was lock)

  at_host : (lock : ℕ) → before_it lock view.host ≡ was lock
  at_host lock = with_device-at now view.host (was lock)

  beside : (lock node : ℕ) → node ≢ view.host → before_it lock node ≡ now node
  beside lock node apart = with_device-other now view.host node (was lock) apart

  abbrev marks : List PendingWrite
  marks = own_id id [] ++ write [] 0x6c 1 ∷ []

  marked : device_after (now view.host) 0 marks ≡ record (now view.host) { base_id = id; tag = 1 }
  marked =
      ap (λ d. (answered d 0 (Write 0x6c 1)).device) numbered_so
      ∙ ap (λ o. unwrap_or o (record (now view.host) { base_id = id }))
      (tag-written (record (now view.host) { base_id = id }) 1)
    where
      numbered_so : (answered (now view.host) 0 (Write 0x60 (id * 0x10000))).device
          ≡ record (now view.host) { base_id = id }
      numbered_so =
          ap (λ o. unwrap_or o (now view.host))
          (base_id-written (now view.host) (id * 0x10000)
          (shown.endpoints view.host proper.host proper.host_is_endpoint))
          ∙ ap (λ n. record (now view.host) { base_id = n }) (omega (arith, fits))

  -- the host is locked, and its marks are to be written
  pub start_way : (lock : ℕ) → IsTakable id (was lock) → (now view.host).lock ≡ id
      → AreOthersUntagged view now id
      → IsOnWay (taken (starter view id begun Check [])) now
  start_way lock takable held untagged = record {
    before = before_it lock;
    seen = before_it lock;
    underway = record {
      proper = proper;
      id = ap (λ (d : Registers). d.base_id) (at_host lock);
      host_has_id = fits;
      untagged = λ node inside own. untagged_at node inside own (cases_eq node view.host);
      walked = begins view;
      described = tt;
      counted = counted-none id;
      short = λ device listed. absurd (not_in_empty device listed);
      held = λ device node listed leads. absurd (not_in_empty device listed);
      others = λ node unmet. refl;
    };
    seen_is = λ node other.
        let apart : node ≢ view.host = λ same. other (ap (λ n. Some n) (sym same)) in
        beside lock node apart
        ∙ sym (performed-one view [] (port_at view.host 0) marks now refl (refl, (refl, tt)) node
        ∙ with_device-other now view.host node _ apart);
    new = λ node leads device listed. absurd (not_in_empty device listed);
    hosted = inr refl;
    fresh = λ node leads.
        let same : view.host ≡ node = same_Some view.host node leads in (
          subst (λ d. IsTakable id d) (sym (at_host lock)
              ∙ ap (λ n. before_it lock n) same) takable,
          ap (λ n. performed view now marks n) (sym same)
              ∙ (performed-one view [] (port_at view.host 0) marks now refl (refl, (refl, tt))
              view.host
              ∙ (with_device-at now view.host _
              ∙ (marked
              ∙ (ap (λ l. record (now view.host) { base_id = id; lock = l; tag = 1 }) held
              ∙ (ap (λ d. taken_as [] id 1 d) (sym (at_host lock))
              ∙ ap (λ n. taken_as [] id 1 (before_it lock n)) same))))),
        );
  }
    where
      own_tag : IsTakable id (was lock) → lock ≡ id → (now view.host).tag ≡ 0
      own_tag (inl free) same = absurd (omega (arith, free, same, fits))
      own_tag (inr own) same = own.1

      untagged_at : (node : ℕ) → node < view.nodes → (before_it lock node).lock ≡ id
          → (node ≡ view.host) ⊎ (node ≢ view.host) → (before_it lock node).tag ≡ 0
      untagged_at node inside own (inl same) =
          ap (λ n. (before_it lock n).tag) same
          ∙ (ap (λ (d : Registers). d.tag) (at_host lock)
          ∙ own_tag takable (ap (λ (d : Registers). d.lock) (sym (at_host lock))
          ∙ (ap (λ n. (before_it lock n).lock) (sym same) ∙ own)))
      untagged_at node inside own (inr apart) =
          ap (λ (d : Registers). d.tag) (beside lock node apart)
          ∙ untagged node inside apart
          (ap (λ (d : Registers). d.lock) (sym (beside lock node apart)) ∙ own)

  -- the host has its marks: it is in the list, and its neighbour is tried next
  pub host_along : IsOnWay (starter view id begun Features []) now
      → IsAlong (numbered (starter view id begun Features []) []) now
  host_along way = record {
    way = record {
      before = way.before;
      seen = now;
      underway = underway-host view way.before way.seen now id way.underway is_taken
          (ap (λ (d : Registers). d.base_id) is.1)
          (λ node apart. sym (way.seen_is node
          (λ here. apart (sym (same_Some view.host node here)))));
      seen_is = λ node beside. refl;
      new = λ node none. absurd none;
      hosted = inl member;
      fresh = tt;
    };
    host = member;
    chained = tt;
    here = refl;
  }
    where
      is : IsTakable id (way.before view.host)
          × (now view.host ≡ taken_as [] id 1 (way.before view.host))
      is = way.fresh view.host refl

      is_taken : IsTaken id [] (way.before view.host) (now view.host)
      is_taken = subst (IsTaken id [] (way.before view.host)) (sym is.1) (record {
        lock = refl;
        tag = refl;
        not_foreign = not_foreign id (way.before view.host) is.0;
        changes = record { rest = refl; routes = λ id most less apart. refl };
      })

      member : IsMember view (met_as [] (Endpoint id) [] ∷ []) view.host
      member = (
        met_as [] (Endpoint id) [],
        Contains-first (met_as [] (Endpoint id) []) [],
        refl,
      )
