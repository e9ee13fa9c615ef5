-- One turn of a walker: it knows what it keeps afterwards, and changes nothing else.
use Rattle.contest_machine.proofs.Prelude.{◌≡◌, ◌≢◌, ℕ, ◌%◌, ◌<◌, nat_lt, Bool, true, false, eqb, List, [], ◌∷◌, ◌++◌, Some, Contains, arith, ◌⊎◌, inl, inr, subst, sym, refl, ap, ◌∙◌, if◌then◌else◌, append-nil, cases_eq, eqb-true, eqb-false, same_Some, Contains-append_left, Contains-append_right, Contains-append_cases, PortRef, Registers, locked, Device, Topology, entered, node_at, AllRegisters, paths_of, node_at-entered, Contains-first, Contains-cases, Write, answered, after_access, with_device-at, with_device-other, PendingWrite, Stage, Ask, Claim, Check, Test, Features, Information, Status, Free, Done, Lost, Walker, freeing, gone_on, taken, judged, told_at, Keeps, TagComes, Knows, AreOwnWrites, AreListed, AreOnce, IsMine, HasClaimed}
use Rattle.contest_machine.proofs.Keeping.Lists.{Leads}
use Rattle.contest_machine.proofs.Keeping.Frame.{Does, Nothing, Writes, Takes, IsTurn}
use Rattle.contest_machine.proofs.Keeping.Reading.{write_keeps_lock, write_keeps_tag, tag_given, lock_left, locked-free, locked-other}
use Rattle.contest_machine.proofs.Keeping.Turning.{Leaves, quiet, judged_mine, taken_mine, gone-cases}

-- the walker between two writes, at this stage
abbrev pub at_stage : Walker → Stage → Walker
at_stage w stage = record w { todo = []; stage = stage }

pub some_left : (p : PendingWrite) (rest : List PendingWrite) → p ∷ rest ≢ []
some_left p rest e = cc

tag-irrelevant : (path : List ℕ) (p : PendingWrite) (rest : List PendingWrite) (tag other : ℕ)
    → TagComes path (p ∷ rest) tag → TagComes path (p ∷ rest) other
tag-irrelevant path p [] tag other comes = comes
tag-irrelevant path p (q ∷ rest) tag other comes = tag-irrelevant path q rest tag other comes

-- the device of a path is one
pub one_node : (view : Topology) (path : List ℕ) (at : PortRef) (node : ℕ)
    → entered view path ≡ Some at → node_at view path ≡ Some node → node ≡ at.node
one_node view path at node enters leads =
    same_Some node at.node (sym leads ∙ node_at-entered view path at enters)

-- a write of the walker's own
module _ (w : Walker) (old : AllRegisters) (p : PendingWrite) (rest : List PendingWrite)
    (mine : IsMine (record w { todo = p ∷ rest }) old) (at : PortRef)
    (enters : entered w.view p.path ≡ Some at) where
  abbrev written : AllRegisters
  written = after_access old at (Write p.offset p.value)

  abbrev device_written : Registers
  device_written = (answered (old at.node) at.port (Write p.offset p.value)).device

  at_it : written at.node ≡ device_written
  at_it = with_device-at old at.node device_written

  beside : (node : ℕ) → node ≢ at.node → written node ≡ old node
  beside node apart = with_device-other old at.node node device_written apart

  same_lock : (node : ℕ) → (node ≡ at.node) ⊎ (node ≢ at.node)
      → (written node).lock ≡ (old node).lock
  same_lock node (inl same) =
      ap (λ n. (written n).lock) same
      ∙ (ap (λ (d : Registers). d.lock) at_it
      ∙ (write_keeps_lock (old at.node) at.port p.offset p.value mine.own.0.1
      ∙ ap (λ n. (old n).lock) (sym same)))
  same_lock node (inr apart) = ap (λ (d : Registers). d.lock) (beside node apart)

  still_tagged : (node : ℕ) → (node ≡ at.node) ⊎ (node ≢ at.node) → (old node).tag ≢ 0
      → (written node).tag ≢ 0
  still_tagged node (inl same) tagged none =
      write_keeps_tag (old at.node) at.port p.offset p.value mine.own.0.2
      (λ no. tagged (ap (λ n. (old n).tag) same ∙ no))
      (ap (λ (d : Registers). d.tag) (sym at_it)
      ∙ (ap (λ n. (written n).tag) (sym same) ∙ none))
  still_tagged node (inr apart) tagged none =
      tagged (ap (λ (d : Registers). d.tag) (sym (beside node apart)) ∙ none)

  keeps_it : Keeps (record w { todo = p ∷ rest }) at.node
  keeps_it = (p.path, mine.own.0.0, node_at-entered w.view p.path at enters)

  pub write_leaves : Leaves (record w { todo = p ∷ rest }) old (record w { todo = rest }) written
  write_leaves = (
    record {
      id = refl;
      does = λ node. does node (cases_eq node at.node);
      grows = λ node keeps. inl keeps;
      shrinks = λ node keeps none. absurd (none keeps);
      claimed = λ node claimed.
          inr (claimed.0, claimed.1, same_lock node (cases_eq node at.node) ∙ claimed.2);
    },
    record {
      locks = λ node keeps. same_lock node (cases_eq node at.node) ∙ mine.locks node keeps;
      tags = λ path node listed leads.
          still_tagged node (cases_eq node at.node) (mine.tags path node listed leads);
      once = mine.once;
      own = mine.own.1;
      tried = mine.tried;
      knows = knows w.stage mine.knows;
    },
  )
    where
      does : (node : ℕ) → (node ≡ at.node) ⊎ (node ≢ at.node)
          → Does (record w { todo = p ∷ rest }) (record w { todo = rest }) old written node
      does node (inl same) =
          Writes (subst (Keeps (record w { todo = p ∷ rest })) (sym same) keeps_it)
          (same_lock node (inl same))
      does node (inr apart) = Nothing (beside node apart)

      comes : (more : List PendingWrite) → rest ≡ more → (node : ℕ)
          → node_at w.view w.path ≡ Some node
          → TagComes w.path (p ∷ more) (old node).tag → TagComes w.path more (written node).tag
      comes [] is node leads last = λ none.
          let same = one_node w.view p.path at node enters
          (ap (λ l. node_at w.view l) last.0 ∙ leads) in
          last.2 (sym (tag_given (old at.node) at.port p.offset p.value last.1)
          ∙ (ap (λ (d : Registers). d.tag) (sym at_it)
          ∙ (ap (λ n. (written n).tag) (sym same) ∙ none)))
      comes (q ∷ more) is node leads last =
          tag-irrelevant w.path q more (old node).tag (written node).tag last

      knows : (stage : Stage) → Knows (record w { todo = p ∷ rest }) old stage
          → Knows (record w { todo = rest }) written stage
      knows Ask known = tt
      knows Claim known = absurd (some_left p rest known.0)
      knows Check known = absurd (some_left p rest known.0)
      knows Test known = absurd (some_left p rest known.0)
      knows Features known = λ node leads. comes rest refl node leads (known node leads)
      knows Information known = absurd (some_left p rest known.0)
      knows Status known = tt
      knows Free known = known
      knows Done known = tt
      knows Lost known = tt

module _ (w : Walker) (old : AllRegisters) where
  -- a port was tried, and nothing else
  pub gone_leaves : (w0 : Walker) (todo : List PendingWrite) (stage : Stage) → w0.view ≡ w.view
      → w0.id
      ≡ w.id
      → ((node : ℕ) → Leads w.view (paths_of w.devices ++ []) node → Keeps w0 node)
      → ((node : ℕ) → Keeps w0 node → Leads w.view (paths_of w.devices ++ []) node)
      → ((node : ℕ) → ¬ HasClaimed w0 old node)
      → ((node : ℕ) → Leads w.view (paths_of w.devices ++ []) node → (old node).lock ≡ w.id)
      → ((path : List ℕ) (node : ℕ) → Contains (paths_of w.devices) path
      → node_at w.view path ≡ Some node → (old node).tag ≢ 0)
      → AreOnce w.view (paths_of w.devices ++ [])
      → AreListed (paths_of w.devices) w.tried
      → AreOwnWrites (paths_of w.devices ++ []) todo
      → Leaves w0 old (gone_on (record w { todo = todo; stage = stage }) w.tried) old
  gone_leaves w0 todo stage view id less more none locks tags once tried own =
      gone-cases (λ after. Leaves w0 old after old) (record w { todo = todo; stage = stage })
      w.tried
      tried
      (λ t listed. (
        quiet w0 old (record w { todo = todo; tried = t; stage = Status }) (sym id) less more none,
        record {
          locks = locks;
          tags = tags;
          once = once;
          own = own;
          tried = listed;
          knows = tt;
        },
      )) (
        quiet w0 old (record w { todo = todo; tried = []; stage = Done }) (sym id) less more none,
        record { locks = locks; tags = tags; once = once; own = own; tried = tt; knows = tt },
      )

-- one access to the device on a walker's path, or to another
module _ (w : Walker) (old : AllRegisters) (fits : w.id < 0xff) (at : PortRef)
    (enters : entered w.view w.path ≡ Some at) where
  -- what is kept between two devices
  abbrev Between : ℕ → Type 0
  Between node = Leads w.view (paths_of w.devices ++ []) node

  leads_here : node_at w.view w.path ≡ Some at.node
  leads_here = node_at-entered w.view w.path at enters

  freeing_turn : (w0 : Walker) (devices : List Device) → w0.id ≡ w.id → w0.view ≡ w.view
      → ((node : ℕ) → Leads w0.view (paths_of devices ++ []) node → Keeps w0 node)
      → ((node : ℕ) → Keeps w0 node → Leads w0.view (paths_of devices ++ []) node)
      → ((node : ℕ) → ¬ HasClaimed w0 old node) → IsTurn w0 (freeing w0 devices) old old
  freeing_turn w0 [] id view less more none = quiet w0 old (freeing w0 []) refl less more none
  freeing_turn w0 (device ∷ rest) id view less more none =
      quiet w0 old (freeing w0 (device ∷ rest)) refl less more none

  judged_turn : (stage : Stage)
      → ((node : ℕ) → Between node → Keeps (at_stage w stage) node)
      → ((node : ℕ) → Keeps (at_stage w stage) node → Between node)
      → ((node : ℕ) → ¬ HasClaimed (at_stage w stage) old node)
      → IsTurn (at_stage w stage) (judged (at_stage w stage) (old at.node).lock) old old
  judged_turn stage less more none = go (eqb (old at.node).lock 0xffff)
    where
      waits : (b : Bool) → IsTurn (at_stage w stage)
          (if b then freeing (at_stage w stage) w.devices else at_stage w Ask) old old
      waits true = freeing_turn (at_stage w stage) w.devices refl refl less more none
      waits false = quiet (at_stage w stage) old (at_stage w Ask) refl less more none

      go : (b : Bool) → IsTurn (at_stage w stage)
          (if b then at_stage w Claim
          else (if nat_lt w.id (old at.node).lock then freeing (at_stage w stage) w.devices
          else at_stage w Ask)) old old
      go true = quiet (at_stage w stage) old (at_stage w Claim) refl less more none
      go false = waits (nat_lt w.id (old at.node).lock)

  taken_turn : (stage : Stage) → (old at.node).lock ≡ w.id
      → ((node : ℕ) → Between node → Keeps (at_stage w stage) node)
      → ((node : ℕ) → Keeps (at_stage w stage) node → Between node)
      → IsTurn (at_stage w stage) (taken w) old old
  taken_turn stage held less more = record {
    id = refl;
    does = λ node. Nothing refl;
    grows = λ node keeps.
        grown node keeps.0 keeps.2
        (Contains-append_cases (paths_of w.devices) (w.path ∷ []) keeps.0 keeps.1);
    shrinks = λ node keeps none. absurd (none (still node (more node keeps)));
    claimed = λ node claimed. inl (w.path, last, claimed.1);
  }
    where
      last : Contains (paths_of w.devices ++ w.path ∷ []) w.path
      last = Contains-append_right (paths_of w.devices) (w.path ∷ []) w.path
          (Contains-first w.path [])

      still : (node : ℕ) → Between node → Keeps (taken w) node
      still node between = (
        between.0,
        Contains-append_left (paths_of w.devices) (w.path ∷ []) between.0
            (subst (λ l. Contains l between.0) (append-nil (paths_of w.devices)) between.1),
        between.2,
      )

      here : (path : List ℕ) (node : ℕ) → node_at w.view path ≡ Some node
          → (w.path ≡ path) ⊎ Contains [] path → (old node).lock ≡ w.id
      here path node leads (inl same) =
          ap (λ n. (old n).lock)
          (one_node w.view w.path at node enters (ap (λ p. node_at w.view p) same ∙ leads)) ∙ held
      here path node leads (inr none) = absurd (omega (arith, none.1))

      grown : (node : ℕ) (path : List ℕ) → node_at w.view path ≡ Some node
          → Contains (paths_of w.devices) path ⊎ Contains (w.path ∷ []) path
          → Keeps (at_stage w stage) node ⊎ ((old node).lock ≡ w.id)
      grown node path leads (inl found) =
          inl (less node (path, Contains-append_left (paths_of w.devices) [] path found, leads))
      grown node path leads (inr found) = inr (here path node leads
          (Contains-cases w.path [] path found))

  -- the lock is read
  pub ask_leaves : IsMine (at_stage w Ask) old
      → Leaves (at_stage w Ask) old (told_at (at_stage w Ask) (old at.node).lock Ask) old
  ask_leaves mine = go (eqb (old at.node).lock w.id) refl
    where
      unclaimed : (node : ℕ) → ¬ HasClaimed (at_stage w Ask) old node
      unclaimed node claimed = absurd (cc)

      go : (b : Bool) → eqb (old at.node).lock w.id ≡ b → Leaves (at_stage w Ask) old
          (if b then at_stage w Test else judged (at_stage w Ask) (old at.node).lock) old
      go true is = (
        quiet (at_stage w Ask) old (at_stage w Test) refl (λ node k. k) (λ node k. k) unclaimed,
        record {
          locks = mine.locks;
          tags = mine.tags;
          once = mine.once;
          own = tt;
          tried = mine.tried;
          knows = (
            refl,
            λ node leads.
                ap (λ n. (old n).lock) (one_node w.view w.path at node enters leads)
                ∙ eqb-true (old at.node).lock w.id is,
          );
        },
      )
      go false is = (
        judged_turn Ask (λ node k. k) (λ node k. k) unclaimed,
        judged_mine w old fits mine.locks mine.tags mine.once mine.tried at enters
            (eqb-false (old at.node).lock w.id is) Ask,
      )

  -- the lock is read again
  pub check_leaves : IsMine (at_stage w Check) old
      → Leaves (at_stage w Check) old (told_at (at_stage w Check) (old at.node).lock Check) old
  check_leaves mine = go (eqb (old at.node).lock w.id) refl
    where
      go : (b : Bool) → eqb (old at.node).lock w.id ≡ b → Leaves (at_stage w Check) old
          (if b then taken w else judged (at_stage w Check) (old at.node).lock) old
      go true is =
          let held = eqb-true (old at.node).lock w.id is in (
            taken_turn Check held (λ node k. k) (λ node k. k),
            taken_mine w old fits mine.locks mine.tags mine.once mine.tried at enters held
                (λ path listed same.
                mine.knows.1 at.node leads_here (
                  path,
                  Contains-append_left (paths_of w.devices) [] path listed,
                  same ∙
                      leads_here,
                )),
          )
      go false is =
          let other = eqb-false (old at.node).lock w.id is in (
            judged_turn Check (λ node k. k) (λ node k. k)
                (λ node claimed. other (ap (λ n. (old n).lock)
                (sym (one_node w.view w.path at node enters claimed.1)) ∙ claimed.2)),
            judged_mine w old fits mine.locks mine.tags mine.once mine.tried at enters other Check,
          )

  -- the tag is read
  pub test_leaves : IsMine (at_stage w Test) old
      → Leaves (at_stage w Test) old (told_at (at_stage w Test) (old at.node).tag Test) old
  test_leaves mine = go (eqb (old at.node).tag 0) refl
    where
      go : (b : Bool) → eqb (old at.node).tag 0 ≡ b → Leaves (at_stage w Test) old
          (if b then taken w else gone_on (at_stage w Test) w.tried) old
      go true is =
          let held = mine.knows.1 at.node leads_here in (
            taken_turn Test held (λ node k. k) (λ node k. k),
            taken_mine w old fits mine.locks mine.tags mine.once mine.tried at enters held
                (λ path listed same.
                mine.tags path at.node listed (same ∙ leads_here)
                (eqb-true (old at.node).tag 0 is)),
          )
      go false is =
          gone_leaves w old (at_stage w Test) [] Test refl refl (λ node k. k) (λ node k. k)
          (λ node claimed. absurd (cc)) mine.locks mine.tags mine.once mine.tried tt

  -- the ID is written to the lock
  pub claim_leaves : IsMine (at_stage w Claim) old
      → Leaves (at_stage w Claim) old (at_stage w Check) (after_access old at (Write 0x68 w.id))
  claim_leaves mine = (
    record {
      id = refl;
      does = λ node. does node (cases_eq node at.node) (cases_eq (old at.node).lock 0xffff);
      grows = λ node keeps. inl keeps;
      shrinks = λ node keeps none. absurd (none keeps);
      claimed = λ node claimed. absurd (cc);
    },
    record {
      locks = λ node keeps.
          ap (λ (d : Registers). d.lock) (stays node keeps) ∙ mine.locks node keeps;
      tags = λ path node listed leads none.
          mine.tags path node listed leads
          (ap (λ (d : Registers). d.tag)
          (sym (stays node
          (path, Contains-append_left (paths_of w.devices) [] path listed, leads))) ∙ none);
      once = mine.once;
      own = tt;
      tried = mine.tried;
      knows = (
        refl,
        λ node leads keeps.
            mine.knows.1 node leads (mine.locks node keeps),
      );
    },
  )
    where
      new : AllRegisters
      new = after_access old at (Write 0x68 w.id)

      other : (old at.node).lock ≢ w.id
      other = mine.knows.1 at.node leads_here

      left : new at.node
          ≡ record (old at.node) { lock = locked (old at.node).lock (w.id % 0x10000) }
      left = with_device-at old at.node _ ∙ lock_left (old at.node) at.port w.id

      beside : (node : ℕ) → node ≢ at.node → new node ≡ old node
      beside node apart = with_device-other old at.node node _ apart

      stays : (node : ℕ) → Keeps (at_stage w Claim) node → new node ≡ old node
      stays node keeps =
          beside node (λ same. other (ap (λ n. (old n).lock) (sym same) ∙ mine.locks node keeps))

      does : (node : ℕ) → (node ≡ at.node) ⊎ (node ≢ at.node)
          → ((old at.node).lock ≡ 0xffff) ⊎ ((old at.node).lock ≢ 0xffff)
          → Does (at_stage w Claim) (at_stage w Check) old new node
      does node (inr apart) free = Nothing (beside node apart)
      does node (inl same) (inl free) =
          Takes (ap (λ n. (old n).lock) same ∙ free) (
            refl,
            leads_here ∙ ap (λ n. Some n) (sym same),
            ap (λ n. (new n).lock) same ∙ (ap (λ (d : Registers). d.lock) left
                ∙ locked-free (old at.node).lock w.id free fits),
          )
          (ap (λ n. new n) same ∙ (left
          ∙ (ap (λ n. record (old at.node) { lock = n })
          (locked-free (old at.node).lock w.id free fits)
          ∙ ap (λ n. record (old n) { lock = w.id }) (sym same))))
      does node (inl same) (inr taken) =
          Nothing (ap (λ n. new n) same ∙ (left
          ∙ (ap (λ n. record (old at.node) { lock = n })
          (locked-other (old at.node).lock w.id taken other fits)
          ∙ ap (λ n. old n) (sym same))))
