-- What a turn of one walker leaves of the other's devices, and of those that nobody keeps.
use Rattle.contest_machine.proofs.Prelude.{◌≡◌, ◌≢◌, ℕ, ◌<◌, List, [], ◌∷◌, ◌++◌, Contains, arith, ◌⊎◌, inl, inr, subst, sym, refl, ap, ◌∙◌, Registers, AllRegisters, paths_of, Stage, Ask, Claim, Check, Test, Features, Information, Status, Free, Done, Lost, Walker, fresh, kept, Keeps, IsAtPath, TagComes, Knows, IsMine, HasClaimed, IsLockOfNone, IsContest, Contains-append_left, Contains-append_right, Contains-first}
use Rattle.contest_machine.proofs.Keeping.Lists.{leads_or_not}

-- What a turn of a walker does to one device: nothing; it writes another register than the lock of
-- a device that it keeps; it takes a free lock; it frees the lock of a device that it kept. If the
-- lock changes, nothing else does.
pub data Does (w after : Walker) (old new : AllRegisters) (node : ℕ) : Type 0 where
  Nothing : new node ≡ old node → Does w after old new node
  Writes : Keeps w node → (new node).lock ≡ (old node).lock → Does w after old new node
  Takes : (old node).lock ≡ 0xffff → HasClaimed after new node
      → new node ≡ record (old node) { lock = after.id } → Does w after old new node
  Frees : Keeps w node → (new node).lock ≡ 0xffff
      → new node ≡ record (old node) { lock = 0xffff } → Does w after old new node

-- what a turn does to all devices, and to what the walker keeps
pub record IsTurn (w after : Walker) (old new : AllRegisters) : Type 0 where
  pub id : after.id ≡ w.id
  pub does : (node : ℕ) → Does w after old new node
  pub grows : (node : ℕ) → Keeps after node → Keeps w node ⊎ ((old node).lock ≡ w.id)
  pub shrinks : (node : ℕ) → Keeps w node → ¬ Keeps after node → (new node).lock ≡ 0xffff
  pub claimed : (node : ℕ) → HasClaimed w old node
      → Keeps after node ⊎ HasClaimed after new node

pub keeps_or_not : (w : Walker) (node : ℕ) → Keeps w node ⊎ (¬ Keeps w node)
keeps_or_not w node = leads_or_not w.view (kept w) node

-- a turn, and then a change of the walker alone that keeps the same and has claimed nothing
pub turn_and_quiet : (w mid after : Walker) (old new : AllRegisters) → IsTurn w mid old new
    → after.id ≡ mid.id → ((node : ℕ) → Keeps after node → Keeps mid node)
    → ((node : ℕ) → Keeps mid node → Keeps after node)
    → ((node : ℕ) → ¬ HasClaimed mid new node) → IsTurn w after old new
turn_and_quiet w mid after old new turn id less more unclaimed = record {
  id = id ∙ turn.id;
  does = λ node. does node (turn.does node);
  grows = λ node keeps. turn.grows node (less node keeps);
  shrinks = λ node keeps none. turn.shrinks node keeps (λ also. none (more node also));
  claimed = λ node claimed. still node (turn.claimed node claimed);
}
  where
    does : (node : ℕ) → Does w mid old new node → Does w after old new node
    does node (Nothing same) = Nothing same
    does node (Writes keeps same) = Writes keeps same
    does node (Takes free claimed whole) = absurd (unclaimed node claimed)
    does node (Frees keeps free whole) = Frees keeps free whole

    still : (node : ℕ) → Keeps mid node ⊎ HasClaimed mid new node
        → Keeps after node ⊎ HasClaimed after new node
    still node (inl keeps) = inl (more node keeps)
    still node (inr claimed) = absurd (unclaimed node claimed)

module _ (w after : Walker) (old new : AllRegisters) (turn : IsTurn w after old new)
    (mine : IsMine w old) (id : ℕ) (differ : w.id ≢ id) (is_id : id < 0xff) where
  -- a device that bears the other's ID is not changed at all
  pub untouched : (node : ℕ) → (old node).lock ≡ id → new node ≡ old node
  untouched node held = go (turn.does node)
    where
      go : Does w after old new node → new node ≡ old node
      go (Nothing same) = same
      go (Writes keeps same) = absurd (differ (sym (mine.locks node keeps) ∙ held))
      go (Takes free claimed whole) = absurd (omega (arith, is_id, sym free ∙ held))
      go (Frees keeps free whole) = absurd (differ (sym (mine.locks node keeps) ∙ held))

  -- no lock becomes the other's ID
  pub never_given : (node : ℕ) → (new node).lock ≡ id → (old node).lock ≡ id
  never_given node held = go (turn.does node)
    where
      go : Does w after old new node → (old node).lock ≡ id
      go (Nothing same) = ap (λ (d : Registers). d.lock) (sym same) ∙ held
      go (Writes keeps same) = sym same ∙ held
      go (Takes free claimed whole) = absurd (differ (sym turn.id ∙ (sym claimed.2 ∙ held)))
      go (Frees keeps free whole) = absurd (omega (arith, is_id, sym free ∙ held))

  pub unchanged : (node : ℕ) → (new node).lock ≡ id → new node ≡ old node
  unchanged node held = untouched node (never_given node held)

module _ (w after o : Walker) (old new : AllRegisters) (turn : IsTurn w after old new)
    (mine : IsMine w old) (theirs : IsMine o old) (differ : w.id ≢ o.id) (is_id : o.id < 0xff) where
  -- so what the other keeps is not changed
  pub kept_stays : (node : ℕ) → Keeps o node → new node ≡ old node
  kept_stays node keeps =
      untouched w after old new turn mine o.id differ is_id node (theirs.locks node keeps)

  -- and what it knows stays true
  theirs-stay : IsMine o new
  theirs-stay = record {
    locks = λ node keeps.
        ap (λ (d : Registers). d.lock) (kept_stays node keeps) ∙ theirs.locks node keeps;
    tags = λ path node listed leads none.
        theirs.tags path node listed leads
        (ap (λ (d : Registers). d.tag)
        (sym (kept_stays node (
          path,
          Contains-append_left (paths_of o.devices) _ path listed,
          leads,
        )))
        ∙ none);
    once = theirs.once;
    own = theirs.own;
    tried = theirs.tried;
    knows = go o.stage refl theirs.knows;
  }
    where
      fresh_stays : (path_fresh : List (List ℕ)) → kept o ≡ paths_of o.devices ++ path_fresh
          → Contains path_fresh o.path → (node : ℕ) → IsAtPath o node → new node ≡ old node
      fresh_stays last is inside node at =
          kept_stays node (
            o.path,
            subst (λ l. Contains l o.path) (sym is)
                (Contains-append_right (paths_of o.devices) last o.path inside),
            at,
          )

      go : (stage : Stage) → o.stage ≡ stage → Knows o old stage → Knows o new stage
      go Ask is knows = tt
      go Claim is knows = (
        knows.0,
        λ node at held.
            knows.1 node at (never_given w after old new turn mine o.id differ is_id node held),
      )
      go Check is knows = knows
      go Test is knows = (
        knows.0,
        λ node at.
            ap (λ (d : Registers). d.lock)
            (untouched w after old new turn mine o.id differ is_id node (knows.1 node at))
            ∙ knows.1 node at,
      )
      go Features is knows =
          λ node at.
          subst (λ (d : Registers). TagComes o.path o.todo d.tag)
          (sym (fresh_stays (o.path ∷ [])
          (ap (λ s. paths_of o.devices ++ fresh s o.path) is)
          (Contains-first o.path []) node at)) (knows node at)
      go Information is knows = (
        knows.0,
        λ node at none.
            knows.1 node at (ap (λ (d : Registers). d.tag)
            (sym (fresh_stays (o.path ∷ [])
            (ap (λ s. paths_of o.devices ++ fresh s o.path) is)
            (Contains-first o.path []) node at)) ∙ none),
      )
      go Status is knows = tt
      go Free is knows = knows
      go Done is knows = tt
      go Lost is knows = tt

-- a turn of the first walker, after which it knows what it keeps
pub contest-stays : (w after o : Walker) (before old new : AllRegisters) → IsContest w o before old
    → IsTurn w after old new → IsMine after new → IsContest after o before new
contest-stays w after o before old new contest turn mine = record {
  differ = λ same. contest.differ (sym turn.id ∙ same);
  first_id = subst (λ n. n < 0xff) (sym turn.id) contest.first_id;
  second_id = contest.second_id;
  first = mine;
  second = theirs-stay w after o old new turn contest.first contest.second contest.differ
      contest.second_id;
  others = λ node none not. others node none not (turn.does node) (keeps_or_not w node);
  stale_first = λ node none not held apart.
      stale node none not held apart (turn.does node) (keeps_or_not w node);
  stale_second = λ node none not held apart.
      let same = unchanged w after old new turn contest.first o.id contest.differ
      contest.second_id node held in
      let was : (old node).lock ≡ o.id = ap (λ (d : Registers). d.lock) (sym same) ∙ held in
      same ∙ contest.stale_second node
      (λ keeps. contest.differ (sym (contest.first.locks node keeps) ∙ was)) not was
      (λ claimed. apart (claimed.0, claimed.1, held));
}
  where
    lost : (node : ℕ) → ¬ Keeps after node → Keeps w node → IsLockOfNone after o before new node
    lost node none keeps = inl (turn.shrinks node keeps none)

    same_lock : (node : ℕ) → new node ≡ old node → ¬ Keeps after node
        → IsLockOfNone w o before old node → IsLockOfNone after o before new node
    same_lock node same none (inl free) = inl (ap (λ (d : Registers). d.lock) same ∙ free)
    same_lock node same none (inr (inl first)) =
        inr (inl (ap (λ (d : Registers). d.lock) same ∙ first))
    same_lock node same none (inr (inr (inl claimed))) = go (turn.claimed node claimed)
      where
        go : Keeps after node ⊎ HasClaimed after new node → IsLockOfNone after o before new node
        go (inl keeps) = absurd (none keeps)
        go (inr claims) = inr (inr (inl claims))
    same_lock node same none (inr (inr (inr claimed))) =
        inr (inr (inr (claimed.0, claimed.1, ap (λ (d : Registers). d.lock) same ∙ claimed.2)))

    others : (node : ℕ) → ¬ Keeps after node → ¬ Keeps o node → Does w after old new node
        → Keeps w node ⊎ (¬ Keeps w node) → IsLockOfNone after o before new node
    others node none not does (inl keeps) = lost node none keeps
    others node none not (Nothing same) (inr not_first) =
        same_lock node same none (contest.others node not_first not)
    others node none not (Writes keeps same) (inr not_first) = absurd (not_first keeps)
    others node none not (Takes free claimed whole) (inr not_first) = inr (inr (inl claimed))
    others node none not (Frees keeps free whole) (inr not_first) = absurd (not_first keeps)

    not_free : (node : ℕ) → (new node).lock ≡ after.id → (new node).lock ≢ 0xffff
    not_free node held free = omega (arith, contest.first_id, sym free ∙ (held ∙ turn.id))

    stale : (node : ℕ) → ¬ Keeps after node → ¬ Keeps o node → (new node).lock ≡ after.id
        → ¬ HasClaimed after new node → Does w after old new node
        → Keeps w node ⊎ (¬ Keeps w node) → new node ≡ before node
    stale node none not held apart does (inl keeps) =
        absurd (not_free node held (turn.shrinks node keeps none))
    stale node none not held apart (Nothing same) (inr not_first) =
        same ∙ contest.stale_first node not_first not
        (ap (λ (d : Registers). d.lock) (sym same) ∙ (held ∙ turn.id))
        (λ claimed. go (turn.claimed node claimed))
      where
        go : Keeps after node ⊎ HasClaimed after new node → ⊥
        go (inl keeps) = none keeps
        go (inr claims) = apart claims
    stale node none not held apart (Writes keeps same) (inr not_first) = absurd (not_first keeps)
    stale node none not held apart (Takes free claimed whole) (inr not_first) =
        absurd (apart claimed)
    stale node none not held apart (Frees keeps free whole) (inr not_first) =
        absurd (not_first keeps)
