-- What no access changes: a walker's view, its ID and that it has begun, and of each device its
-- kind, ports and links.
use Rattle.contest_machine.proofs.Prelude.{◌≡◌, ℕ, ◌+◌, ◌*◌, ◌/◌, ◌%◌, nat_lt, Bool, true, false, eqb, List, [], ◌∷◌, ◌++◌, Option, Some, None, subst, sym, refl, ◌∙◌, if◌then◌else◌, eqb-true, PortRef, Registers, IsSameDevice, same_device, write_same, Endpoint, Device, entered, AllRegisters, Access, Read, Write, answered, after_access, id_after, met_as, Asked, PendingWrite, Tried, Stage, Ask, Claim, Check, Test, Features, Information, Status, Free, Done, Lost, Walker, write, routes_to, but_last, freeing, gone_on, taken, judged, numbered, outward, settled, walker_told, told_at, wants, reached, reaches, stepped}
use Rattle.contest_machine.proofs.Turns.Steps.{gone_by}

-- ---- the walker

pub record IsSameWalker (w after : Walker) : Type 0 where
  pub view : after.view ≡ w.view
  pub id : after.id ≡ w.id
  pub begun : after.begun ≡ w.begun

module _ (w0 : Walker) where
  gone_same : (w : Walker) (tried : List Tried) → IsSameWalker w0 w
      → IsSameWalker w0 (gone_on w tried)
  gone_same w tried same =
      gone_by (IsSameWalker w0) w tried
      (λ t some. record { view = same.view; id = same.id; begun = same.begun })
      (record { view = same.view; id = same.id; begun = same.begun })

  freeing_same : (w : Walker) (devices : List Device) → IsSameWalker w0 w
      → IsSameWalker w0 (freeing w devices)
  freeing_same w [] same = record { view = same.view; id = same.id; begun = same.begun }
  freeing_same w (device ∷ rest) same =
      record { view = same.view; id = same.id; begun = same.begun }

  numbered_same : (w : Walker) (path : List ℕ) → IsSameWalker w0 w
      → IsSameWalker w0 (numbered w path)
  numbered_same w [] same = record { view = same.view; id = same.id; begun = same.begun }
  numbered_same w (first ∷ rest) same =
      gone_same (record w {
        devices = w.devices ++ met_as w.devices (Endpoint (id_after w.id w.next)) w.path ∷ [];
        next = id_after w.id w.next + 1;
        todo = write w.path 0x60 (id_after w.id w.next * 0x10000)
            ∷ routes_to w.devices w.path (id_after w.id w.next);
      }) w.tried (record { view = same.view; id = same.id; begun = same.begun })

  outward_same : (w : Walker) (tried : List Tried) → IsSameWalker w0 w
      → IsSameWalker w0 (outward w tried)
  outward_same w [] same = record { view = same.view; id = same.id; begun = same.begun }
  outward_same w (top ∷ rest) same =
      record { view = same.view; id = same.id; begun = same.begun }

  judged_same : (w : Walker) (lock : ℕ) → IsSameWalker w0 w → IsSameWalker w0 (judged w lock)
  judged_same w lock same = go (eqb lock 0xffff) (nat_lt w.id lock)
    where
      go : (b c : Bool) → IsSameWalker w0 (if b then record w { stage = Claim }
          else (if c then freeing w w.devices else record w { stage = Ask }))
      go true c = record { view = same.view; id = same.id; begun = same.begun }
      go false true = freeing_same w w.devices same
      go false false = record { view = same.view; id = same.id; begun = same.begun }

  -- another stage, and what is to be written
  moved : (after : Walker) → after.view ≡ w0.view → after.id ≡ w0.id → after.begun ≡ w0.begun
      → IsSameWalker w0 after
  moved after view id begun = record { view = view; id = id; begun = begun }

  told_same : (w : Walker) (value : ℕ) (stage : Stage) → IsSameWalker w0 w
      → IsSameWalker w0 (told_at (record w { stage = stage }) value stage)
  told_same w value Ask same = go (eqb value w.id)
    where
      go : (b : Bool) → IsSameWalker w0 (if b then record w { stage = Test }
          else judged (record w { stage = Ask }) value)
      go true = moved (record w { stage = Test }) same.view same.id same.begun
      go false = judged_same (record w { stage = Ask }) value
          (moved (record w { stage = Ask }) same.view same.id same.begun)
  told_same w value Claim same =
      moved (record w { stage = Check }) same.view same.id same.begun
  told_same w value Check same = go (eqb value w.id)
    where
      go : (b : Bool) → IsSameWalker w0 (if b then taken (record w { stage = Check })
          else judged (record w { stage = Check }) value)
      go true = moved (taken (record w { stage = Check })) same.view same.id same.begun
      go false = judged_same (record w { stage = Check }) value
          (moved (record w { stage = Check }) same.view same.id same.begun)
  told_same w value Test same = go (eqb value 0)
    where
      go : (b : Bool) → IsSameWalker w0 (if b then taken (record w { stage = Test })
          else gone_on (record w { stage = Test }) w.tried)
      go true = moved (taken (record w { stage = Test })) same.view same.id same.begun
      go false = gone_same (record w { stage = Test }) w.tried
          (moved (record w { stage = Test }) same.view same.id same.begun)
  told_same w value Features same = go (eqb (value / 0x10000000 % 2) 1)
    where
      go : (b : Bool) → IsSameWalker w0 (if b then record w { stage = Information }
          else numbered (record w { stage = Features }) w.path)
      go true = moved (record w { stage = Information }) same.view same.id same.begun
      go false = numbered_same (record w { stage = Features }) w.path
          (moved (record w { stage = Features }) same.view same.id same.begun)
  told_same w value Information same = record {
    view = same.view;
    id = same.id;
    begun = same.begun;
  }
  told_same w value Status same = go (eqb value 2)
    where
      go : (b : Bool) → IsSameWalker w0 (if b then outward (record w { stage = Status }) w.tried
          else gone_on (record w { stage = Status }) w.tried)
      go true = outward_same (record w { stage = Status }) w.tried
          (moved (record w { stage = Status }) same.view same.id same.begun)
      go false = gone_same (record w { stage = Status }) w.tried
          (moved (record w { stage = Status }) same.view same.id same.begun)
  told_same w value Free same =
      freeing_same (record w { stage = Free }) (but_last w.devices)
      (moved (record w { stage = Free }) same.view same.id same.begun)
  told_same w value Done same = moved (record w { stage = Done }) same.view same.id same.begun
  told_same w value Lost same = moved (record w { stage = Lost }) same.view same.id same.begun

  settled_same : (w : Walker) (rest : List PendingWrite) (stage : Stage) (path : List ℕ)
      → IsSameWalker w0 w → IsSameWalker w0 (settled (record w { stage = stage }) rest stage path)
  settled_same w [] Features [] same = record {
    view = same.view;
    id = same.id;
    begun = same.begun;
  }
  settled_same w rest stage path same = go rest stage path
    where
      go : (rest : List PendingWrite) (stage : Stage) (path : List ℕ)
          → IsSameWalker w0 (settled (record w { stage = stage }) rest stage path)
      go (q ∷ rest) stage path = record { view = same.view; id = same.id; begun = same.begun }
      go [] Ask path = record { view = same.view; id = same.id; begun = same.begun }
      go [] Claim path = record { view = same.view; id = same.id; begun = same.begun }
      go [] Check path = record { view = same.view; id = same.id; begun = same.begun }
      go [] Test path = record { view = same.view; id = same.id; begun = same.begun }
      go [] Features [] = record { view = same.view; id = same.id; begun = same.begun }
      go [] Features (x ∷ path) = record { view = same.view; id = same.id; begun = same.begun }
      go [] Information path = record { view = same.view; id = same.id; begun = same.begun }
      go [] Status path = record { view = same.view; id = same.id; begun = same.begun }
      go [] Free path = record { view = same.view; id = same.id; begun = same.begun }
      go [] Done path = record { view = same.view; id = same.id; begun = same.begun }
      go [] Lost path = record { view = same.view; id = same.id; begun = same.begun }

same_walker : (w : Walker) → IsSameWalker w w
same_walker w = record { view = refl; id = refl; begun = refl }

told_keeps : (w : Walker) (value : ℕ) → IsSameWalker w (walker_told w value)
told_keeps w value = go w.todo w.stage w.path
  where
    go : (todo : List PendingWrite) (stage : Stage) (path : List ℕ)
        → IsSameWalker (record w { todo = todo; stage = stage; path = path })
        (walker_told (record w { todo = todo; stage = stage; path = path }) value)
    go [] stage path =
        told_same (record w { todo = []; stage = stage; path = path })
        (record w { todo = []; path = path }) value stage
        (record { view = refl; id = refl; begun = refl })
    go (p ∷ rest) stage path =
        settled_same (record w { todo = p ∷ rest; stage = stage; path = path })
        (record w { todo = p ∷ rest; path = path }) rest stage path
        (record { view = refl; id = refl; begun = refl })

-- ---- the devices

abbrev pub AreSameDevices : AllRegisters → AllRegisters → Type 0
AreSameDevices before now = (node : ℕ) → IsSameDevice (before node) (now node)

pub access_is : (device : Registers) (port : ℕ) (access : Access)
    → IsSameDevice device (answered device port access).device
access_is device port (Read offset) = same_device device
access_is device port (Write offset value) = write_same device offset value

access_same : (before now : AllRegisters) (at : PortRef) (access : Access)
    → AreSameDevices before now → AreSameDevices before (after_access now at access)
access_same before now at access same node = go (eqb node at.node) refl
  where
    is : IsSameDevice (now at.node) (answered (now at.node) at.port access).device
    is = access_is (now at.node) at.port access

    there : IsSameDevice (before at.node) (answered (now at.node) at.port access).device
    there = record {
      kind = is.kind ∙ (same at.node).kind;
      ports = is.ports ∙ (same at.node).ports;
      linked = is.linked ∙ (same at.node).linked;
      large_id = is.large_id ∙ (same at.node).large_id;
      standard = is.standard ∙ (same at.node).standard;
    }

    go : (b : Bool) → eqb node at.node ≡ b → IsSameDevice (before node)
        (if b then (answered (now at.node) at.port access).device else now node)
    go true here =
        subst (λ n. IsSameDevice (before n) (answered (now at.node) at.port access).device)
        (sym (eqb-true node at.node here)) there
    go false other = same node

-- ---- one access

pub step_lasts : (w : Walker) (old : AllRegisters) → IsSameWalker w (stepped w old).walker
step_lasts w old = go (wants w)
  where
    at : (ask : Asked) (o : Option PortRef) → IsSameWalker w (reached w old ask o).walker
    at ask None = same_walker w
    at ask (Some port) = told_keeps w (answered (old port.node) port.port ask.access).answer.value

    go : (o : Option Asked) → IsSameWalker w (reaches w old o).walker
    go None = same_walker w
    go (Some ask) = at ask (entered w.view ask.path)

pub step_same : (before : AllRegisters) (w : Walker) (old : AllRegisters)
    → AreSameDevices before old
    → AreSameDevices before (stepped w old).registers
step_same before w old same = go (wants w)
  where
    at : (ask : Asked) (o : Option PortRef)
        → AreSameDevices before (reached w old ask o).registers
    at ask None = same
    at ask (Some port) = access_same before old port ask.access same

    go : (o : Option Asked) → AreSameDevices before (reaches w old o).registers
    go None = same
    go (Some ask) = at ask (entered w.view ask.path)
