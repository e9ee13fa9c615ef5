-- No access of a walker changes an entry that is neither below 63, nor its own, nor that of 255.
use Rattle.contest_machine.proofs.Prelude.{◌≡◌, ◌≢◌, ℕ, ◌+◌, ◌*◌, ◌/◌, ◌%◌, ◌<◌, nat_lt, Bool, true, false, eqb, List, [], ◌∷◌, ◌++◌, Option, Some, None, arith, ◌⊎◌, inl, inr, subst, sym, refl, ap, ◌∙◌, if◌then◌else◌, unwrap_or, cases_eq, same_Some, PortRef, Registers, is_switch, Endpoint, Device, Topology, entered, AllRegisters, Read, Write, answered, after_access, id_after, met_as, PendingWrite, Tried, Stage, Ask, Claim, Check, Test, Features, Information, Status, Free, Done, Lost, Walker, write, routes_to, gone_on, taken, numbered, switch_set_up, outward, entry_of, select-written, same_kind, entry-stays, with_device-at, with_device-other, Asked, asked, last_path, but_last, freeing, judged, walker_told, reached, stepped}
use Rattle.contest_machine.proofs.Keeping.Reading.{read-same}
use Rattle.contest_machine.proofs.Turns.Steps.{gone_by}
use Rattle.contest_machine.proofs.Turns.Lasting.{access_is}
use Rattle.contest_machine.proofs.Numbering.Pairing.{AreLinked, HeadOk, IsOrderly, starts_head, entry_orderly, one_orderly, orderly_append, routes_orderly, home_orderly, taken_orderly}

module _ (dest : ℕ) (far : 62 < dest) (not_all : dest ≢ 255) where
  abbrev pub IsCareful : Walker → AllRegisters → Type 0
  IsCareful w now = AreLinked dest w.todo × HeadOk dest w.view now w.todo

  orderly_is : (w : Walker) (now : AllRegisters) → IsOrderly dest w.todo → IsCareful w now
  orderly_is w now orderly = (orderly.0, starts_head dest w.view now w.todo orderly.1)

  gone_careful : (w : Walker) (now : AllRegisters) (tried : List Tried) → IsOrderly dest w.todo
      → IsCareful (gone_on w tried) now
  gone_careful w now tried orderly =
      gone_by (λ a. IsCareful a now) w tried (λ t some. orderly_is w now orderly)
      (orderly_is w now orderly)

  all_other : dest ≢ 255 % 0x400
  all_other e = not_all e

  freeing_careful : (w : Walker) (now : AllRegisters) (devices : List Device)
      → IsCareful (freeing w devices) now
  freeing_careful w now [] = (tt, tt)
  freeing_careful w now (device ∷ rest) =
      orderly_is (freeing w (device ∷ rest)) now
      (routes_orderly dest (device ∷ rest) (last_path (device ∷ rest)) 255 all_other)

  -- what an access leaves of the entry
  abbrev pub LeavesEntry : AllRegisters → AllRegisters → Type 0
  LeavesEntry old new = (node : ℕ) → entry_of (new node) dest ≡ entry_of (old node) dest

  pub record IsKeeping (w : Walker) (old : AllRegisters) (after : Walker) (new : AllRegisters)
      : Type 0 where
    pub careful : IsCareful after new
    pub left : LeavesEntry old new

  -- a write at this port
  pub left_by : (old : AllRegisters) (at : PortRef) (offset value : ℕ)
      → (offset ≡ 0x74 → is_switch (old at.node) ≡ true → dest ≢ (old at.node).select)
      → LeavesEntry old (after_access old at (Write offset value))
  left_by old at offset value apart node = go (cases_eq node at.node)
    where
      go : (node ≡ at.node) ⊎ (node ≢ at.node)
          → entry_of (after_access old at (Write offset value) node) dest
          ≡ entry_of (old node) dest
      go (inl same) =
          ap (λ n. entry_of (after_access old at (Write offset value) n) dest) same
          ∙ (ap (λ d. entry_of d dest) (with_device-at old at.node _)
          ∙ (entry-stays (old at.node) offset value dest apart
          ∙ ap (λ n. entry_of (old n) dest) (sym same)))
      go (inr other) = ap (λ d. entry_of d dest) (with_device-other old at.node node _ other)

  module _ (w : Walker) (old : AllRegisters) (fits : w.id < 0xff) (own : dest ≢ w.id) where
    abbrev between : Stage → Walker
    between stage = record w { todo = []; stage = stage }

    own_other : dest ≢ w.id % 0x400
    own_other e = own (omega (arith, e, fits))

    read_keeping : (after : Walker) (at : PortRef) (offset : ℕ) → IsCareful after old
        → IsKeeping w old after (after_access old at (Read offset))
    read_keeping after at offset careful =
        subst (IsKeeping w old after) (sym (read-same old at offset))
        (record { careful = careful; left = λ node. refl })

    pub reached_keeping : (w0 : Walker) (ask : Asked) → IsCareful w0 old
        → ((at : PortRef) → entered w0.view ask.path ≡ Some at
        → IsKeeping w old (walker_told w0 (answered (old at.node) at.port ask.access).answer.value)
        (after_access old at ask.access))
        → IsKeeping w old (reached w0 old ask (entered w0.view ask.path)).walker
        (reached w0 old ask (entered w0.view ask.path)).registers
    reached_keeping w0 ask careful some = go (entered w0.view ask.path) some
      where
        go : (o : Option PortRef) → ((at : PortRef) → o ≡ Some at
            → IsKeeping w old
            (walker_told w0 (answered (old at.node) at.port ask.access).answer.value)
            (after_access old at ask.access))
            → IsKeeping w old (reached w0 old ask o).walker (reached w0 old ask o).registers
        go None some = record { careful = careful; left = λ node. refl }
        go (Some at) some = some at refl

    judged_careful : (stage : Stage) (lock : ℕ) → IsCareful (judged (between stage) lock) old
    judged_careful stage lock = go (eqb lock 0xffff) (nat_lt w.id lock)
      where
        go : (b c : Bool) → IsCareful (if b then between Claim
            else (if c then freeing (between stage) w.devices else between Ask)) old
        go true c = (tt, tt)
        go false true = freeing_careful (between stage) old w.devices
        go false false = (tt, tt)

    numbered_careful : (path : List ℕ) → id_after w.id w.next < 63
        → IsCareful (numbered (between Features) path) old
    numbered_careful [] small = (tt, tt)
    numbered_careful (x ∷ rest) small =
        gone_careful (record w {
          devices = w.devices ++ met_as w.devices (Endpoint (id_after w.id w.next)) w.path ∷ [];
          next = id_after w.id w.next + 1;
          todo = write w.path 0x60 (id_after w.id w.next * 0x10000)
              ∷ routes_to w.devices w.path (id_after w.id w.next);
          stage = Features;
        }) old w.tried
        (orderly_append dest (write w.path 0x60 (id_after w.id w.next * 0x10000) ∷ [])
        (routes_to w.devices w.path (id_after w.id w.next))
        (one_orderly dest w.path 0x60 (id_after w.id w.next * 0x10000) (λ e. omega (arith, e))
        (λ e. omega (arith, e)))
        (routes_orderly dest w.devices w.path (id_after w.id w.next)
        (λ e. omega (arith, e, small, far))))

    outward_careful : (tried : List Tried)
        → IsCareful (outward (record w { todo = []; stage = Status; tried = tried }) tried) old
    outward_careful [] = (tt, tt)
    outward_careful (top ∷ rest) =
        orderly_is (outward (record w { todo = []; stage = Status; tried = top ∷ rest })
        (top ∷ rest)) old (entry_orderly dest top.path 255 top.port all_other)

    abbrev Keeping : Walker → Type 0
    Keeping w0 = IsKeeping w old (stepped w0 old).walker (stepped w0 old).registers

    status_keeping : (tried : List Tried)
        → Keeping (record w { todo = []; stage = Status; tried = tried })
    status_keeping [] = record { careful = (tt, tt); left = λ node. refl }
    status_keeping (top ∷ rest) =
        reached_keeping (record w { todo = []; stage = Status; tried = top ∷ rest })
        (asked top.path (Read (0x158 + 0x20 * top.port))) (tt, tt)
        (λ at enters. read_keeping _ at (0x158 + 0x20 * top.port)
        (go (eqb (answered (old at.node) at.port
        (Read (0x158 + 0x20 * top.port))).answer.value 2)))
      where
        go : (b : Bool) → IsCareful (if b
            then outward (record w { todo = []; stage = Status; tried = top ∷ rest }) (top ∷ rest)
            else gone_on (record w { todo = []; stage = Status; tried = top ∷ rest })
            (top ∷ rest)) old
        go true = outward_careful (top ∷ rest)
        go false = gone_careful (record w { todo = []; stage = Status; tried = top ∷ rest }) old
            (top ∷ rest) (tt, tt)

    pub stage_keeping : (stage : Stage) → (stage ≡ Features → id_after w.id w.next < 63)
        → Keeping (between stage)
    stage_keeping Ask small =
        reached_keeping (between Ask) (asked w.path (Read 0x68)) (tt, tt)
        (λ at enters. read_keeping _ at 0x68
        (go (answered (old at.node) at.port (Read 0x68)).answer.value
        (eqb (answered (old at.node) at.port (Read 0x68)).answer.value w.id)))
      where
        go : (value : ℕ) (b : Bool)
            → IsCareful (if b then between Test else judged (between Ask) value) old
        go value true = (tt, tt)
        go value false = judged_careful Ask value
    stage_keeping Claim small =
        reached_keeping (between Claim) (asked w.path (Write 0x68 w.id)) (tt, tt)
        (λ at enters. record {
          careful = (tt, tt);
          left = left_by old at 0x68 w.id (λ e. absurd (omega (arith, e)));
        })
    stage_keeping Check small =
        reached_keeping (between Check) (asked w.path (Read 0x68)) (tt, tt)
        (λ at enters. read_keeping _ at 0x68
        (go (answered (old at.node) at.port (Read 0x68)).answer.value
        (eqb (answered (old at.node) at.port (Read 0x68)).answer.value w.id)))
      where
        go : (value : ℕ) (b : Bool)
            → IsCareful (if b then taken (between Check) else judged (between Check) value) old
        go value true = orderly_is (taken (between Check)) old (taken_orderly dest (between Check))
        go value false = judged_careful Check value
    stage_keeping Test small =
        reached_keeping (between Test) (asked w.path (Read 0x6c)) (tt, tt)
        (λ at enters. read_keeping _ at 0x6c
        (go (eqb (answered (old at.node) at.port (Read 0x6c)).answer.value 0)))
      where
        go : (b : Bool)
            → IsCareful (if b then taken (between Test) else gone_on (between Test) w.tried) old
        go true = orderly_is (taken (between Test)) old (taken_orderly dest (between Test))
        go false = gone_careful (between Test) old w.tried (tt, tt)
    stage_keeping Features small =
        reached_keeping (between Features) (asked w.path (Read 0x10)) (tt, tt)
        (λ at enters. read_keeping _ at 0x10
        (go (eqb ((answered (old at.node) at.port (Read 0x10)).answer.value / 0x10000000 % 2) 1)))
      where
        go : (b : Bool) → IsCareful (if b then between Information
            else numbered (between Features) w.path) old
        go true = (tt, tt)
        go false = numbered_careful w.path (small refl)
    stage_keeping Information small =
        reached_keeping (between Information) (asked w.path (Read 0x14)) (tt, tt)
        (λ at enters.
        let value = (answered (old at.node) at.port (Read 0x14)).answer.value in
        read_keeping _ at 0x14
        (orderly_is (switch_set_up (between Information) (value / 0x100 % 0x100) (value % 0x100))
        old
        (home_orderly dest w.path w.id (value % 0x100) far own_other)))
    stage_keeping Status small = status_keeping w.tried
    stage_keeping Free small =
        reached_keeping (between Free) (asked (last_path w.devices) (Write 0x68 w.id)) (tt, tt)
        (λ at enters. record {
          careful = freeing_careful (between Free) (after_access old at (Write 0x68 w.id))
              (but_last w.devices);
          left = left_by old at 0x68 w.id (λ e. absurd (omega (arith, e)));
        })
    stage_keeping Done small = record { careful = (tt, tt); left = λ node. refl }
    stage_keeping Lost small = record { careful = (tt, tt); left = λ node. refl }

  -- what is written next was selected
  pub head_after : (view : Topology) (old : AllRegisters) (p : PendingWrite)
      (rest : List PendingWrite)
      (at : PortRef) → entered view p.path ≡ Some at → AreLinked dest (p ∷ rest)
      → HeadOk dest view (after_access old at (Write p.offset p.value)) rest
  head_after view old p [] at enters linked = tt
  head_after view old p (q ∷ rest) at enters linked = λ is to leads switch.
      let pair = linked.1 is in
      let same : to ≡ at =
      same_Some to at (sym leads ∙ (ap (λ l. entered view l) (sym pair.1) ∙ enters)) in
      subst (λ (d : Registers). dest ≢ d.select)
      (sym (ap (λ (r : PortRef). after_access old at (Write p.offset p.value) r.node) same
      ∙ with_device-at old at.node _))
      (selected pair.0 (subst (λ (d : Registers). is_switch d ≡ true)
      (ap (λ (r : PortRef). after_access old at (Write p.offset p.value) r.node) same
      ∙ with_device-at old at.node _) switch))
    where
      selected : p.offset ≡ 0x70
          → is_switch (answered (old at.node) at.port (Write p.offset p.value)).device ≡ true
          → dest ≢ (answered (old at.node) at.port (Write p.offset p.value)).device.select
      selected at_select switch =
          let was : is_switch (old at.node) ≡ true =
          sym (same_kind (old at.node) _ (access_is (old at.node) at.port
          (Write p.offset p.value))) ∙ switch in
          let now : (answered (old at.node) at.port (Write p.offset p.value)).device.select
          ≡ p.value % 0x400 =
          ap (λ n. (answered (old at.node) at.port (Write n p.value)).device.select) at_select
          ∙ ap (λ o. (unwrap_or o (old at.node)).select)
          (select-written (old at.node) p.value was) in
          λ e. linked.0 at_select (e ∙ now)
