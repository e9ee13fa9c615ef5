-- Steps of the machine, of a walker that was changed in part before.
use Rattle.host_contest.proofs.Prelude.{◌≡◌, ◌≤◌, ◌==◌, ◌++◌, ◌+◌, ◌-◌, ◌*◌, ◌&&◌, ℕ, suc, take, ne_eqb, nat_lt, Bool, true, false, List, [], ◌∷◌, length, Some, None, Result, Ok, Err, OnOk, arith, refl, sym, ap, subst, ◌∙◌, if◌then◌else◌, Device, Endpoint, Switch, Topology, id_after, PendingWrite, Tried, Stage, Ask, Claim, Check, Test, Features, Information, Status, Free, Done, Lost, Walker, write, routes_to, but_last, freeing, port_after, gone_on, numbered, switch_set_up, settled, told_with, walker_told, AreShort, IsBoundedAt, machine_of, new_walker, device_added, with_home, with_tried, port_left, is_clear, is_numbered, machine_is_done, Machine}
use Rattle.std.proofs.lemmas.Bool.{eqb-true}

-- a list without elements
pub no_length : {A : Type 0} (l : List A) → (length l == 0) ≡ true → l ≡ []
no_length [] is = refl
no_length (x ∷ l) is = absurd (omega (arith, eqb-true (length (x ∷ l)) 0 is))

-- the neighbour of the host is tried next
abbrev moved : Walker → List ℕ → Walker
moved w path = record w { path = path; stage = Ask }

abbrev moved_out : Walker → Walker
moved_out w = moved w (0 ∷ [])

pub host_moved : (old new : Walker) (path : List ℕ)
    → new ≡ device_added old (Endpoint old.id) → path ≡ 0 ∷ []
    → record new { path = path; stage = Ask } ≡ numbered old []
host_moved old new path is there = ap (moved new) there ∙ ap moved_out is

-- which switches were tried before does not matter once a port is tried
pub gone_over : (w : Walker) (before tried : List Tried)
    → gone_on (record w { tried = before }) tried ≡ gone_on w tried
gone_over w before [] = refl
gone_over w before (top ∷ rest) =
    go (nat_lt (port_after top.entry top.port) top.ports) (gone_over w before rest)
  where
    go : (b : Bool) → gone_on (record w { tried = before }) rest ≡ gone_on w rest
        → (if b then record w {
          tried = record top { port = port_after top.entry top.port } ∷ rest;
          stage = Status;
        }
        else gone_on (record w { tried = before }) rest)
        ≡ (if b then record w {
          tried = record top { port = port_after top.entry top.port } ∷ rest;
          stage = Status;
        }
        else gone_on w rest)
    go true same = refl
    go false same = same

-- the host is taken in once it has its marks
abbrev with_todo : Walker → List PendingWrite → Walker
with_todo w todo = record w { todo = todo }

abbrev host_numbered : Walker → Walker
host_numbered w = numbered w []

pub settles : (w : Walker) → w.todo ≡ [] → w.stage ≡ Features → w.path ≡ []
    → numbered w [] ≡ settled w w.todo w.stage w.path
settles w clear stage host =
    ap host_numbered (ap (with_todo w) clear)
    ∙ (ap (λ todo. settled w todo Features []) (sym clear)
    ∙ (ap (λ s. settled w w.todo s []) (sym stage) ∙ ap (settled w w.todo w.stage) (sym host)))

-- a switch without another port is left
pub gone_past : (w : Walker) (top : Tried) (rest tried : List Tried) → tried ≡ top ∷ rest
    → port_left top ≡ None → gone_on (record w { tried = rest }) rest ≡ gone_on w tried
gone_past w top rest tried is none =
    go (nat_lt (port_after top.entry top.port) top.ports) none ∙ ap (gone_on w) (sym is)
  where
    go : (b : Bool) → (if b then Some (port_after top.entry top.port) else None) ≡ None
        → gone_on (record w { tried = rest }) rest
        ≡ (if b then record w {
          tried = record top { port = port_after top.entry top.port } ∷ rest;
          stage = Status;
        }
        else gone_on w rest)
    go true none = absurd (cc)
    go false none = gone_over w rest rest

-- what follows of an answer that is not an error
pub on_ok : {T E P Q : Type 0} (r : Result T E) → (P → Q) → OnOk r P → OnOk r Q
on_ok (Ok value) f p = f p
on_ok (Err end) f p = p

-- what is written home, in three parts
pub home_joined : (todo cleared home : List PendingWrite) (first : PendingWrite)
    → ((todo ++ first ∷ []) ++ cleared) ++ home ≡ todo ++ (first ∷ (cleared ++ home))
home_joined [] cleared home first = refl
home_joined (p ∷ todo) cleared home first = ap (λ l. p ∷ l) (home_joined todo cleared home first)

-- a choice that is made
pub choose : {A : Type 0} (b : Bool) (x y : A) → b ≡ true → x ≡ (if b then x else y)
choose true x y is = refl
choose false x y is = absurd (cc)

pub refuse : {A : Type 0} (b : Bool) (x y : A) → b ≡ false → y ≡ (if b then x else y)
refuse true x y is = absurd (cc)
refuse false x y is = refl

-- a switch is taken in, in three parts
abbrev shown : Walker → Walker
shown w = record w { stage = Status }

pub set_up_so : (w home tried device : Walker) (ports entry : ℕ) → home ≡ with_home w entry
    → tried ≡ with_tried home ports entry → device ≡ device_added tried (Switch ports entry)
    → record device { stage = Status } ≡ switch_set_up w ports entry
set_up_so w home tried device ports entry is_home is_tried is_device =
    ap shown (is_device ∙ ap (λ v. device_added v (Switch ports entry))
    (is_tried ∙ ap (λ v. with_tried v ports entry) is_home))

-- the list without its last device
pub all_but_last : (devices : List Device)
    → take (length devices - 1) devices ≡ but_last devices
all_but_last [] = refl
all_but_last (device ∷ []) = refl
all_but_last (device ∷ second ∷ rest) =
    let one : length (device ∷ second ∷ rest) - 1 ≡ suc (length (second ∷ rest) - 1) = omega arith
    in
    ap (λ n. take n (device ∷ second ∷ rest)) one
    ∙ ap (λ l. device ∷ l) (all_but_last (second ∷ rest))

-- what is written last does not matter once the next walker is told
settled_over : (w : Walker) (before rest : List PendingWrite) (stage : Stage) (path : List ℕ)
    → settled (record w { todo = before }) rest stage path ≡ settled w rest stage path
settled_over w before (q ∷ rest) stage path = refl
settled_over w before [] Ask path = refl
settled_over w before [] Claim path = refl
settled_over w before [] Check path = refl
settled_over w before [] Test path = refl
settled_over w before [] Features [] = refl
settled_over w before [] Features (x ∷ path) = refl
settled_over w before [] Information path = refl
settled_over w before [] Status path = refl
settled_over w before [] Free path = refl
settled_over w before [] Done path = refl
settled_over w before [] Lost path = refl

pub told_write : (w : Walker) (value : ℕ) (p : PendingWrite) (rest : List PendingWrite)
    → w.todo ≡ p ∷ rest
    → settled (record w { todo = rest }) rest w.stage w.path ≡ walker_told w value
told_write w value p rest is =
    settled_over w rest rest w.stage w.path ∙ ap (told_with w value) (sym is)

-- shorter than more
pub short_up : (most more : ℕ) (tried : List Tried) → most ≤ more → AreShort most tried
    → AreShort more tried
short_up most more [] less short = tt
short_up most more (top ∷ rest) less short =
    (omega (arith, less, short.0), short_up most more rest less short.1)

pub bounded_at : (stage : Stage) (devices : List Device) (id next : ℕ) (path : List ℕ)
    (tried : List Tried) → stage ≡ Status → IsBoundedAt stage devices id next path tried
    → AreShort (length devices) tried
bounded_at stage devices id next path tried is bounded =
    (subst (λ s. IsBoundedAt s devices id next path tried) is bounded).short

-- the devices stay while a switch is set up
pub same_devices : (old home tried : Walker) (ports entry : ℕ) → home ≡ with_home old entry
    → tried ≡ with_tried home ports entry → tried.devices ≡ old.devices
same_devices old home tried ports entry is_home is_tried =
    ap (λ (w : Walker). w.devices) is_tried ∙ ap (λ (w : Walker). w.devices) is_home

pub no_view : Topology
no_view = record { nodes = 0; switch_ports = λ node. None; peer = λ at. None; host = 0 }

-- an endpoint is taken in, in its parts
abbrev noted : ℕ → Walker → Walker
noted next w = record w { next = next }

abbrev gone_with : ℕ → Walker → Walker
gone_with next w = gone_on (noted next w) w.tried

abbrev with_writes : Walker → List PendingWrite → Walker
with_writes w todo = record w { todo = todo }

abbrev numbered_as : Walker → ℕ → Walker
numbered_as w id =
    gone_with (id + 1) (device_added
    (with_writes w (write w.path 0x60 (id * 0x10000) ∷ routes_to w.devices w.path id))
    (Endpoint id))

pub number_so : (w pushed after : Walker) (todo : List PendingWrite) (id first : ℕ) (rest : List ℕ)
    → w.path ≡ first ∷ rest → id ≡ id_after w.id w.next
    → todo ≡ write w.path 0x60 (id * 0x10000) ∷ routes_to w.devices w.path id
    → pushed ≡ device_added (with_writes w todo) (Endpoint id)
    → after ≡ gone_on (record pushed { next = id + 1 }) pushed.tried
    → after ≡ numbered w w.path
number_so w pushed after todo id first rest path is_id is_todo is_pushed is_after =
    is_after
    ∙ (ap (gone_with (id + 1)) is_pushed
    ∙ (ap (λ t. gone_with (id + 1) (device_added (with_writes w t) (Endpoint id))) is_todo
    ∙ (ap (numbered_as w) is_id ∙ (so (first ∷ rest) ∙ ap (numbered w) (sym path)))))
  where
    so : (p : List ℕ) → numbered_as w (id_after w.id w.next) ≡ numbered w (first ∷ rest)
    so p = refl

-- a path that is not empty
pub no_empty : (path : List ℕ) → (length path == 0) ≡ false
    → (first : ℕ) × (rest : List ℕ) × (path ≡ first ∷ rest)
no_empty [] is = absurd (cc)
no_empty (first ∷ rest) is = (first, rest, refl)

-- the last device is freed
abbrev with_devices : Walker → List Device → Walker
with_devices w devices = record w { devices = devices }

freeing_over : (w : Walker) (before devices : List Device)
    → freeing (with_devices w before) devices ≡ freeing w devices
freeing_over w before [] = refl
freeing_over w before (device ∷ rest) = refl

pub freed_so : (w after : Walker) (devices : List Device) → devices ≡ but_last w.devices
    → after ≡ freeing (with_devices w devices) devices → after ≡ freeing w (but_last w.devices)
freed_so w after devices is freed = freed ∙ (freeing_over w devices devices ∙ ap (freeing w) is)

-- a walker that has asked nothing is not done
pub new_is_not_done : (machine : Machine) (id : ℕ)
    → machine_of no_view machine ≡ new_walker no_view id → machine_is_done machine ≡ false
new_is_not_done machine id is =
    ap (λ (w : Walker). is_numbered w.stage && is_clear w.todo) is

pub clear_is : (todo : List PendingWrite) → (length todo == 0) ≡ is_clear todo
clear_is [] = refl
clear_is (p ∷ todo) = ne_eqb (length (p ∷ todo)) 0 (λ e. omega (arith, e))
