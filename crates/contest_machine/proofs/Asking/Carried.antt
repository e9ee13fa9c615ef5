-- Each access of a walker that does not give up is carried, if its path is open.
use Rattle.contest_machine.proofs.Prelude.{◌≡◌, ◌≢◌, ℕ, ◌+◌, ◌*◌, ◌≤◌, List, [], ◌∷◌, length, Some, None, Contains, arith, ◌⊎◌, inl, inr, subst, sym, refl, ap, ◌∙◌, Contains-append_cases, Contains-append_left, same_Some, PortRef, entered, node_at, Walked, AllRegisters, paths_of, IsOpened, passed_listed, device_on, node_at-entered, Access, Read, Write, after_access, Asked, PendingWrite, Tried, Stage, Ask, Claim, Check, Test, Features, Information, Status, Free, Done, Lost, Walker, kept, fresh, asked, status_asked, wants_at, wants_with, wants, AreOwnWrites, Knows, IsMine, WalkIsBounded, IsBoundedAt, WalkerIsWithin, WantsAlong, IsCarried}
use Rattle.host_enumerate.proofs.Opening.{open_after_read}
use Rattle.contest_machine.specs.declared.stages.Stage.TheVariants as stages
use Rattle.contest_machine.proofs.Turns.Spending.{few_kept, few_devices}
use Rattle.contest_machine.proofs.Numbering.OnWay.{bound_at, IsApart}
use Rattle.contest_machine.proofs.Numbering.Chained.{AreChained}
use Rattle.contest_machine.proofs.Numbering.Along.{IsHere, IsHereAt, IsAlong, front_of, port_of, here_is}
use Rattle.contest_machine.proofs.Numbering.Moving.{front_listed}
use Rattle.contest_machine.proofs.Asking.Guided.{AreOutside, IsPast, IsGuided}
use Rattle.contest_machine.proofs.Asking.Answering.{only, PassesListed, PassesOthers, carried, open_after_write, listed_others, unmet_others}
use Rattle.contest_machine.proofs.Asking.Back.{not_back}
use Rattle.contest_machine.proofs.Asking.Hosted.{listed_other, host_base, host_stays}

-- what is known of an access of a walker behind the host
record IsFree (w : Walker) (now : AllRegisters) (path : List ℕ) (access : Access) : Type 0 where
  short : length path ≤ 64
  other : (at : PortRef) → entered w.view path ≡ Some at → path ≢ [] → at.node ≢ w.view.host
  later : (at : PortRef) → entered w.view path ≡ Some at → IsOpened w.view now w.id path
      → IsOpened w.view (after_access now at access) w.id path

module _ (w : Walker) (now : AllRegisters) (within : WalkerIsWithin w) (mine : IsMine w now)
    (along : IsAlong w now) (guided : IsGuided w) where
  abbrev paths : List (List ℕ)
  paths = paths_of w.devices

  -- a path that is kept leads to another device than the host, if it is not empty
  kept_other : (path : List ℕ) (at : PortRef) → Contains (kept w) path
      → entered w.view path ≡ Some at → path ≢ [] → at.node ≢ w.view.host
  kept_other path at found leads some =
      go (Contains-append_cases paths (fresh w.stage w.path) path found)
    where
      fresh_apart : (stage : Stage) → Contains (fresh stage w.path) path → IsApart w stage at.node
      fresh_apart Features one =
          ap (λ l. node_at w.view l) (only w.path path one) ∙ node_at-entered w.view path at leads
      fresh_apart Information one =
          ap (λ l. node_at w.view l) (only w.path path one) ∙ node_at-entered w.view path at leads
      fresh_apart Ask none = absurd (omega (arith, none.1))
      fresh_apart Claim none = absurd (omega (arith, none.1))
      fresh_apart Check none = absurd (omega (arith, none.1))
      fresh_apart Test none = absurd (omega (arith, none.1))
      fresh_apart Status none = absurd (omega (arith, none.1))
      fresh_apart Free none = absurd (omega (arith, none.1))
      fresh_apart Done none = absurd (omega (arith, none.1))
      fresh_apart Lost none = absurd (omega (arith, none.1))

      go : Contains paths path ⊎ Contains (fresh w.stage w.path) path → at.node ≢ w.view.host
      go (inl listed) same =
          listed_other w.view along.way.before along.way.seen w.id w.next w.devices _
          along.way.underway along.host path at listed leads some same
      go (inr one) same =
          along.way.new at.node (fresh_apart w.stage one) along.host.0 along.host.1
          (along.host.2 ∙ ap (λ n. Some n) (sym same))

  -- the host has its ID
  base : (now w.view.host).base_id ≡ w.id
  base =
      ap (λ d. d.base_id)
      (sym (along.way.seen_is w.view.host
      (λ apart. along.way.new w.view.host apart along.host.0 along.host.1 along.host.2)
      ∙ host_stays w.view (kept w) w.todo now kept_other mine.own (outside guided.2 guided.4)))
      ∙ host_base w.view along.way.before along.way.seen w.id w.next w.devices _
      along.way.underway along.host
    where
      outside : (w.path ≡ []) ⊎ AreOutside w.todo → IsPast w.devices w.path → AreOutside w.todo
      outside (inr all) past = all
      outside (inl empty) (inr some) = absurd (some empty)
      outside (inl empty) (inl none) =
          absurd (let found = subst (λ l. Contains l along.host.0) none along.host.1 in
          omega (arith, found.1))

  few : length w.devices ≤ 64
  few =
      let most = few_devices w.devices (fresh w.stage w.path) (few_kept w now within mine) in
      omega (arith, most)

  bounded : (stage : Stage) → w.stage ≡ stage
      → IsBoundedAt stage w.devices w.id w.next w.path w.tried
  bounded stage is =
      subst (λ s. IsBoundedAt s w.devices w.id w.next w.path w.tried) is within.bounded

  short_path : WalkIsBounded w.devices w.id w.next w.path w.tried → length w.path ≤ 64
  short_path bound =
      let less = bound.path_is in
      let most = few in
      omega (arith, less, most)

  walked_at : (stage : Stage) → w.stage ≡ stage
      → Walked w.view paths (bound_at w stage)
  walked_at stage is = subst (λ s. Walked w.view paths (bound_at w s)) is along.way.underway.walked

  -- the path that is tried passes switches of the list
  path_passes : Walked w.view paths w.path → IsHere w.path w.tried
      → PassesListed w.view w.devices w.path
  path_passes walked here first front rest port end is enters =
      passed_listed w.view paths w.path w.path (first ∷ front) rest port walked
      (inr (
        front_of w.tried,
        port_of w.tried,
        front_listed w.view w.devices w.path w.tried along.chained walked here,
        here_is w.path w.tried here,
      )) is

  here_at : (stage : Stage) → w.stage ≡ stage → IsHereAt w stage
  here_at stage is = subst (IsHereAt w) is along.here

  listed_short : (path : List ℕ) → Contains paths path → length path ≤ 64
  listed_short path listed =
      let found = device_on w.devices path listed in
      let less = along.way.underway.short found.0 found.1 in
      let same = ap (λ (l : List ℕ). length l) found.2 in
      let most = few in
      omega (arith, less, same, most)

  -- what is kept can be written along an open path
  kept_free : (path : List ℕ) → Contains (kept w) path
      → (length path ≤ 64) × ((at : PortRef) → entered w.view path ≡ Some at
      → PassesOthers w.view path at.node)
  kept_free path found = go (Contains-append_cases paths (fresh w.stage w.path) path found)
    where
      new_one : (stage : Stage) → w.stage ≡ stage → Walked w.view paths w.path
          → IsHere w.path w.tried → WalkIsBounded w.devices w.id w.next w.path w.tried
          → ((node : ℕ) → node_at w.view w.path ≡ Some node → IsApart w stage node)
          → w.path ≡ path → (length path ≤ 64) × ((at : PortRef) → entered w.view path ≡ Some at
          → PassesOthers w.view path at.node)
      new_one stage is walked here bound apart same =
          subst (λ l. (length l ≤ 64) × ((at : PortRef) → entered w.view l ≡ Some at
          → PassesOthers w.view l at.node)) same (
            short_path bound,
            λ at leads.
                unmet_others w.view w.devices w.path w.path at walked (path_passes walked here)
                (along.way.new at.node (subst (λ s. IsApart w s at.node) (sym is)
                (apart at.node (node_at-entered w.view w.path at leads)))),
          )

      new_at : (stage : Stage) → w.stage ≡ stage → Contains (fresh stage w.path) path
          → (length path ≤ 64) × ((at : PortRef) → entered w.view path ≡ Some at
          → PassesOthers w.view path at.node)
      new_at Features is one =
          new_one Features is (walked_at Features is) (here_at Features is) (bounded Features is)
          (λ node leads. leads) (only w.path path one)
      new_at Information is one =
          new_one Information is (walked_at Information is) (here_at Information is)
          (bounded Information is) (λ node leads. leads) (only w.path path one)
      new_at Ask is none = absurd (omega (arith, none.1))
      new_at Claim is none = absurd (omega (arith, none.1))
      new_at Check is none = absurd (omega (arith, none.1))
      new_at Test is none = absurd (omega (arith, none.1))
      new_at Status is none = absurd (omega (arith, none.1))
      new_at Free is none = absurd (omega (arith, none.1))
      new_at Done is none = absurd (omega (arith, none.1))
      new_at Lost is none = absurd (omega (arith, none.1))

      go : Contains paths path ⊎ Contains (fresh w.stage w.path) path
          → (length path ≤ 64) × ((at : PortRef) → entered w.view path ≡ Some at
          → PassesOthers w.view path at.node)
      go (inl listed) = (
        listed_short path listed,
        λ at leads. listed_others w.view w.devices _ path at along.way.underway.walked listed leads,
      )
      go (inr one) = new_at w.stage refl one

  -- a claim leaves the switches that are passed
  claim_others : w.stage ≡ Claim → (at : PortRef) → entered w.view w.path ≡ Some at
      → PassesOthers w.view w.path at.node
  claim_others is at leads first front rest port end split enters same =
      (subst (Knows w now) is mine.knows).1 at.node (node_at-entered w.view w.path at leads)
      (ap (λ n. (now n).lock) (sym same)
      ∙ mine.locks end.node (
        first ∷ front,
        Contains-append_left paths (fresh w.stage w.path) (first ∷ front)
            (path_passes (walked_at Claim is) (here_at Claim is) first front rest port end split
            enters),
        node_at-entered w.view (first ∷ front) end enters,
      ))

  abbrev LeadsOn : List ℕ → Type 0
  LeadsOn path = (at : PortRef) → entered w.view path ≡ Some at → path ≢ []
      → at.node ≢ w.view.host

  -- the path that is tried does not lead to the host
  tried_on : IsHere w.path w.tried → LeadsOn w.path
  tried_on here at leads some =
      not_back w.view within.proper w.devices _ along.way.underway.walked w.path w.tried at
      along.chained guided.0 here leads

  free_read : (path : List ℕ) (offset : ℕ) → length path ≤ 64 → LeadsOn path
      → IsFree w now path (Read offset)
  free_read path offset short on = record {
    short = short;
    other = on;
    later = λ at leads opened. open_after_read w.view now w.id path at offset opened;
  }

  free_write : (path : List ℕ) (offset value : ℕ) → length path ≤ 64 → LeadsOn path
      → ((at : PortRef) → entered w.view path ≡ Some at → PassesOthers w.view path at.node)
      → IsFree w now path (Write offset value)
  free_write path offset value short on others = record {
    short = short;
    other = on;
    later = λ at leads opened.
        open_after_write w.view now w.id path at offset value (others at leads) opened;
  }

  abbrev CanBe : Asked → Type 0
  CanBe ask = IsFree w now ask.path ask.access

  found : (mine_ask ask : Asked) → Some mine_ask ≡ Some ask → CanBe mine_ask → CanBe ask
  found mine_ask ask same free = subst CanBe (same_Some mine_ask ask same) free

  nothing : (ask : Asked) → None ≡ Some ask → CanBe ask
  nothing ask none = absurd (cc)

  read_at : (stage : Stage) → w.stage ≡ stage → (ask : Asked) → stage ≢ stages.Free
      → wants_at w stage ≡ Some ask → CanBe ask
  read_at Ask is ask on wanted =
      found (asked w.path (Read 0x68)) ask wanted
      (free_read w.path 0x68 (short_path (bounded Ask is)) (tried_on (here_at Ask is)))
  read_at Claim is ask on wanted =
      found (asked w.path (Write 0x68 w.id)) ask wanted
      (free_write w.path 0x68 w.id (short_path (bounded Claim is))
      (tried_on (here_at Claim is)) (claim_others is))
  read_at Check is ask on wanted =
      found (asked w.path (Read 0x68)) ask wanted
      (free_read w.path 0x68 (short_path (bounded Check is)) (tried_on (here_at Check is)))
  read_at Test is ask on wanted =
      found (asked w.path (Read 0x6c)) ask wanted
      (free_read w.path 0x6c (short_path (bounded Test is)) (tried_on (here_at Test is)))
  read_at Features is ask on wanted =
      found (asked w.path (Read 0x10)) ask wanted
      (free_read w.path 0x10 (short_path (bounded Features is)) (tried_on (here_at Features is)))
  read_at Information is ask on wanted =
      found (asked w.path (Read 0x14)) ask wanted
      (free_read w.path 0x14 (short_path (bounded Information is))
      (tried_on (here_at Information is)))
  read_at Status is ask on wanted = top_of w.tried along.chained wanted
    where
      top_of : (tried : List Tried) → AreChained w.view w.devices tried
          → status_asked tried ≡ Some ask → CanBe ask
      top_of [] chained none = nothing ask none
      top_of (top ∷ rest) chained some =
          found (asked top.path (Read (0x158 + 0x20 * top.port))) ask some
          (free_read top.path (0x158 + 0x20 * top.port)
          (listed_short top.path chained.0.listed)
          (λ at leads some same.
          chained.0.other (ap (λ (q : PortRef). q.node)
          (same_Some chained.0.at at (sym chained.0.leads ∙ leads)) ∙ same)))
  read_at Free is ask on wanted = absurd (on refl)
  read_at Done is ask on wanted = nothing ask wanted
  read_at Lost is ask on wanted = nothing ask wanted

  wanted_free : (ask : Asked) → w.stage ≢ stages.Free → wants w ≡ Some ask → CanBe ask
  wanted_free ask on wanted = go w.todo refl wanted
    where
      go : (todo : List PendingWrite) → w.todo ≡ todo → wants_with w todo ≡ Some ask → CanBe ask
      go [] is wanted = read_at w.stage refl ask on wanted
      go (p ∷ rest) is wanted =
          let own = subst (AreOwnWrites (kept w)) is mine.own in
          let free = kept_free p.path own.0.0 in
          found (asked p.path (Write p.offset p.value)) ask wanted
          (free_write p.path p.offset p.value free.0
          (λ at leads. kept_other p.path at own.0.0 leads) free.1)

  pub along_carried : (ask : Asked) (at : PortRef) → WantsAlong w now ask at
      → IsCarried w now ask at
  along_carried ask at wants_it =
      let free = wanted_free ask wants_it.keeps_on wants_it.wanted in
      carried w.view now w.id ask.path at ask.access within.proper base wants_it.opened
      (free.later at wants_it.leads wants_it.opened) wants_it.leads
      (free.other at wants_it.leads wants_it.some) wants_it.some
      free.short

  pub along_short : (ask : Asked) → w.stage ≢ stages.Free → wants w ≡ Some ask
      → length ask.path ≤ 64
  along_short ask on wanted = (wanted_free ask on wanted).short
