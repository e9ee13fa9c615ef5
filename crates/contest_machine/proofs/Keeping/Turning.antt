-- What one turn of a walker leaves, case by case.
use Rattle.contest_machine.proofs.Prelude.{◌≡◌, ◌≢◌, ℕ, zero, suc, ◌+◌, ◌<◌, ◌==◌, nat_lt, Bool, true, false, eqb, List, [], ◌∷◌, ◌++◌, length, Option, Some, None, Contains, arith, ◌⊎◌, inl, inr, subst, sym, refl, ap, ◌∙◌, if◌then◌else◌, append-nil, eqb-true, same_Some, Contains-append_left, Contains-append_right, Contains-append_cases, PortRef, Kind, Endpoint, Switch, Device, entered, node_at, AllRegisters, paths_of, toward, node_at-entered, Contains-first, Contains-rest, Contains-cases, PendingWrite, Tried, Stage, Ask, Claim, Status, Done, Walker, write, entry_set, route_of, route_pending, routes_to, cleared_below, home_set, own_id, freeing, port_after, gone_on, taken, judged, Keeps, TagComes, AreOwnWrites, AreListed, AreOnce, IsMine, HasClaimed}
use Rattle.contest_machine.proofs.Keeping.Lists.{Leads, once-push, writes-append}
use Rattle.contest_machine.proofs.Keeping.Frame.{Nothing, IsTurn}

-- what a turn is shown to leave
abbrev pub Leaves : Walker → AllRegisters → Walker → AllRegisters → Type 0
Leaves w old after new = IsTurn w after old new × IsMine after new

-- writes of the walker's own
pub entry_own : (all : List (List ℕ)) (path : List ℕ) (id port : ℕ) → Contains all path
    → AreOwnWrites all (entry_set path id port)
entry_own all path id port listed = (
  (listed, λ e. omega (arith, e), λ e. absurd (omega (arith, e))),
  ((listed, λ e. omega (arith, e), λ e. absurd (omega (arith, e))), tt),
)

pub route_own : (all : List (List ℕ)) (path : List ℕ) (id : ℕ) (kind : Kind) (port : Option ℕ)
    → Contains all path → AreOwnWrites all (route_of path id kind port)
route_own all path id (Endpoint given) port listed = tt
route_own all path id (Switch ports entry) None listed = tt
route_own all path id (Switch ports entry) (Some port) listed = entry_own all path id port listed

pub routes_own : (all : List (List ℕ)) (devices : List Device) (path : List ℕ) (id : ℕ)
    → ((p : List ℕ) → Contains (paths_of devices) p → Contains all p)
    → AreOwnWrites all (routes_to devices path id)
routes_own all [] path id on = tt
routes_own all (device ∷ rest) path id on =
    writes-append all (route_pending path id device) (routes_to rest path id)
    (route_own all device.path id device.kind (toward device.path path)
    (on device.path (Contains-first device.path (paths_of rest))))
    (routes_own all rest path id
    (λ p listed. on p (Contains-rest device.path (paths_of rest) p listed)))

cleared_own : (all : List (List ℕ)) (path : List ℕ) (host_id below : ℕ) → Contains all path
    → AreOwnWrites all (cleared_below path host_id below)
cleared_own all path host_id zero listed = tt
cleared_own all path host_id (suc n) listed =
    writes-append all (cleared_below path host_id n) (if n == host_id then [] else entry_set path n
    255)
    (cleared_own all path host_id n listed) (go (eqb n host_id))
  where
    go : (b : Bool) → AreOwnWrites all (if b then [] else entry_set path n 255)
    go true = tt
    go false = entry_own all path n 255 listed

pub home_own : (all : List (List ℕ)) (path : List ℕ) (host_id entry : ℕ) → Contains all path
    → AreOwnWrites all (home_set path host_id entry)
home_own all path host_id entry listed = (
  (listed, λ e. omega (arith, e), λ e. absurd (omega (arith, e))),
  writes-append all (cleared_below path host_id 63) (entry_set path host_id entry)
      (cleared_own all path host_id 63 listed) (entry_own all path host_id entry listed),
)

tag_own : (all : List (List ℕ)) (path : List ℕ) (id n : ℕ) → Contains all path
    → AreOwnWrites all (own_id id path ++ write path 0x6c (n + 1) ∷ [])
tag_own all [] id n listed = (
  (listed, λ e. omega (arith, e), λ e. absurd (omega (arith, e))),
  ((listed, λ e. omega (arith, e), λ e none. omega (arith, none)), tt),
)
tag_own all (x ∷ path) id n listed =
    ((listed, λ e. omega (arith, e), λ e none. omega (arith, none)), tt)

tag_comes : (path : List ℕ) (id n tag : ℕ)
    → TagComes path (own_id id path ++ write path 0x6c (n + 1) ∷ []) tag
tag_comes [] id n tag = (refl, refl, λ none. omega (arith, none))
tag_comes (x ∷ path) id n tag = (refl, refl, λ none. omega (arith, none))

-- The walker after a port was tried has another stage, and else is the same.
pub gone-cases : (P : Walker → Type 0) (w : Walker) (tried : List Tried)
    → AreListed (paths_of w.devices) tried
    → ((t : List Tried) → AreListed (paths_of w.devices) t
    → P (record w { tried = t; stage = Status }))
    → P (record w { tried = []; stage = Done }) → P (gone_on w tried)
gone-cases P w [] listed status done = done
gone-cases P w (top ∷ rest) listed status done =
    go (nat_lt (port_after top.entry top.port) top.ports)
    (gone-cases P w rest listed.1 status done)
  where
    go : (b : Bool) → P (gone_on w rest)
        → P (if b then record w {
          tried = record top { port = port_after top.entry top.port } ∷ rest;
          stage = Status;
        }
        else gone_on w rest)
    go true on = status (record top { port = port_after top.entry top.port } ∷ rest) listed
    go false on = on

-- a walker that takes in or frees nothing
module _ (w : Walker) (now : AllRegisters) where
  -- a device more or less, of which nothing was just claimed
  pub quiet : (after : Walker) → after.id ≡ w.id
      → ((node : ℕ) → Keeps after node → Keeps w node)
      → ((node : ℕ) → Keeps w node → Keeps after node)
      → ((node : ℕ) → ¬ HasClaimed w now node) → IsTurn w after now now
  quiet after id less more unclaimed = record {
    id = id;
    does = λ node. Nothing refl;
    grows = λ node keeps. inl (less node keeps);
    shrinks = λ node keeps none. absurd (none (more node keeps));
    claimed = λ node claimed. absurd (unclaimed node claimed);
  }

-- Of a walker between two devices: what it keeps is in its list. `stage` is one of those.
module _ (w : Walker) (now : AllRegisters) (fits : w.id < 0xff)
    (locks : (node : ℕ) → Leads w.view (paths_of w.devices ++ []) node → (now node).lock ≡ w.id)
    (tags : (path : List ℕ) (node : ℕ) → Contains (paths_of w.devices) path
    → node_at w.view path ≡ Some node → (now node).tag ≢ 0)
    (once : AreOnce w.view (paths_of w.devices ++ []))
    (tried : AreListed (paths_of w.devices) w.tried) where
  -- it frees what it keeps
  pub freeing_mine : (devices : List Device)
      → ((node : ℕ) → Leads w.view (paths_of devices ++ []) node → (now node).lock ≡ w.id)
      → ((path : List ℕ) (node : ℕ) → Contains (paths_of devices) path
      → node_at w.view path ≡ Some node → (now node).tag ≢ 0)
      → AreOnce w.view (paths_of devices ++ []) → IsMine (freeing w devices) now
  freeing_mine [] locks tags once = record {
    locks = locks;
    tags = tags;
    once = once;
    own = tt;
    tried = tt;
    knows = tt;
  }
  freeing_mine (device ∷ rest) locks tags once = record {
    locks = locks;
    tags = tags;
    once = once;
    own = routes_own (paths_of (device ∷ rest) ++ []) (device ∷ rest) _ 255
        (λ p listed. Contains-append_left (paths_of (device ∷ rest)) [] p listed);
    tried = tt;
    knows = λ e. cc;
  }

  -- it waits, frees, or claims, by a lock that is not its own
  pub judged_mine : (at : PortRef) → entered w.view w.path ≡ Some at
      → (now at.node).lock ≢ w.id
      → (stage : Stage) → IsMine (judged (record w { todo = []; stage = stage })
      (now at.node).lock) now
  judged_mine at enters other stage = go (eqb (now at.node).lock 0xffff) refl
    where
      waits : (b : Bool) → IsMine
          (if b then freeing (record w { todo = []; stage = stage }) w.devices
          else record w { todo = []; stage = Ask }) now
      waits true = freeing_mine w.devices locks tags once
      waits false = record {
        locks = locks;
        tags = tags;
        once = once;
        own = tt;
        tried = tried;
        knows = tt;
      }

      go : (b : Bool) → eqb (now at.node).lock 0xffff ≡ b
          → IsMine (if b then record w { todo = []; stage = Claim }
          else (if nat_lt w.id (now at.node).lock
          then freeing (record w { todo = []; stage = stage }) w.devices
          else record w { todo = []; stage = Ask })) now
      go true is = record {
        locks = locks;
        tags = tags;
        once = once;
        own = tt;
        tried = tried;
        knows = (
          refl,
          λ node leads held.
              omega (
                arith,
                fits,
                sym (eqb-true (now at.node).lock 0xffff is)
                    ∙ (ap (λ n. (now n).lock)
                    (same_Some at.node node (sym (node_at-entered w.view w.path at enters) ∙ leads))
                    ∙ held),
              ),
        );
      }
      go false is = waits (nat_lt w.id (now at.node).lock)

  -- it keeps the device on its path from now on
  pub taken_mine : (at : PortRef) → entered w.view w.path ≡ Some at
      → (now at.node).lock ≡ w.id
      → ((path : List ℕ) → Contains (paths_of w.devices) path
      → node_at w.view path ≢ node_at w.view w.path)
      → IsMine (taken w) now
  taken_mine at enters held new = record {
    locks = λ node leads.
        go node leads.2 (Contains-append_cases (paths_of w.devices) (w.path ∷ []) leads.0 leads.1);
    tags = tags;
    once = once-push w.view (paths_of w.devices) w.path
        (subst (AreOnce w.view) (append-nil (paths_of w.devices)) once) new;
    own = tag_own (paths_of w.devices ++ w.path ∷ []) w.path w.id (length w.devices)
        (Contains-append_right (paths_of w.devices) (w.path ∷ []) w.path
        (Contains-first w.path []));
    tried = tried;
    knows = λ node leads. tag_comes w.path w.id (length w.devices) (now node).tag;
  }
    where
      here : (path : List ℕ) (node : ℕ) → node_at w.view path ≡ Some node
          → (w.path ≡ path) ⊎ Contains [] path → (now node).lock ≡ w.id
      here path node leads (inl same) =
          ap (λ n. (now n).lock)
          (same_Some node at.node (sym leads
          ∙ (ap (λ p. node_at w.view p) (sym same) ∙ node_at-entered w.view w.path at enters)))
          ∙ held
      here path node leads (inr none) = absurd (omega (arith, none.1))

      go : {path : List ℕ} (node : ℕ) → node_at w.view path ≡ Some node
          → Contains (paths_of w.devices) path ⊎ Contains (w.path ∷ []) path
          → (now node).lock ≡ w.id
      go {path = path} node leads (inl found) =
          locks node (path, Contains-append_left (paths_of w.devices) [] path found, leads)
      go {path = path} node leads (inr found) =
          here path node leads (Contains-cases w.path [] path found)

  -- a port was tried
  pub gone_mine : (todo : List PendingWrite) → AreOwnWrites (paths_of w.devices ++ []) todo
      → (stage : Stage)
      → IsMine (gone_on (record w { todo = todo; stage = stage }) w.tried) now
  gone_mine todo own stage =
      gone-cases (λ after. IsMine after now) (record w { todo = todo; stage = stage }) w.tried tried
      (λ t listed. record {
        locks = locks;
        tags = tags;
        once = once;
        own = own;
        tried = listed;
        knows = tt;
      })
      (record { locks = locks; tags = tags; once = once; own = own; tried = tt; knows = tt })
