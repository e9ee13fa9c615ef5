-- What a walker writes has an offset that a request can name, and while it locks its own host it
-- asks that alone.
use Rattle.host_contest.proofs.Prelude.{◌≡◌, ℕ, ◌+◌, ◌*◌, ◌/◌, ◌%◌, ◌==◌, zero, suc, nat_lt, Bool, true, false, eqb, List, [], ◌∷◌, ◌++◌, Option, Some, None, arith, refl, if◌then◌else◌, PortRef, Endpoint, Switch, Device, entered, AllRegisters, toward, answered, id_after, met_as, Asked, PendingWrite, Tried, Stage, Ask, Claim, Check, Test, Features, Information, Status, Free, Done, Lost, Walker, write, entry_set, route_of, route_pending, routes_to, cleared_below, home_set, last_path, but_last, freeing, port_after, gone_on, taken, judged, numbered, outward, wants, settled, walker_told, told_at, reached, reaches, stepped, is_locking, IsOfLock, IsAtHost, AreLow}
use Rattle.fabric_map.specs.declared.map.Kind.{Kind}

low-append : (first second : List PendingWrite) → AreLow first → AreLow second
    → AreLow (first ++ second)
low-append [] second one two = two
low-append (p ∷ rest) second one two = (one.0, low-append rest second one.1 two)

low-entry : (path : List ℕ) (id port : ℕ) → AreLow (entry_set path id port)
low-entry path id port = (omega arith, (omega arith, tt))

low-route : (at : List ℕ) (id : ℕ) (kind : Kind) (port : Option ℕ)
    → AreLow (route_of at id kind port)
low-route at id (Endpoint given) port = tt
low-route at id (Switch ports entry) None = tt
low-route at id (Switch ports entry) (Some port) = low-entry at id port

low-routes : (devices : List Device) (path : List ℕ) (id : ℕ) → AreLow (routes_to devices path id)
low-routes [] path id = tt
low-routes (device ∷ rest) path id =
    low-append (route_pending path id device) (routes_to rest path id)
    (low-route device.path id device.kind (toward device.path path)) (low-routes rest path id)

low-cleared : (path : List ℕ) (id n : ℕ) → AreLow (cleared_below path id n)
low-cleared path id zero = tt
low-cleared path id (suc n) =
    low-append (cleared_below path id n) (if n == id then [] else entry_set path n 255)
    (low-cleared path id n) (go (eqb n id))
  where
    go : (b : Bool) → AreLow (if b then [] else entry_set path n 255)
    go true = tt
    go false = low-entry path n 255

low-home : (path : List ℕ) (id entry : ℕ) → AreLow (home_set path id entry)
low-home path id entry = (
  omega arith,
  low-append (cleared_below path id 63) (entry_set path id entry) (low-cleared path id 63)
      (low-entry path id entry),
)

abbrev IsLow : Walker → Type 0
IsLow w = AreLow w.todo

low-freeing : (w : Walker) (devices : List Device) → IsLow (freeing w devices)
low-freeing w [] = tt
low-freeing w (device ∷ rest) = low-routes (device ∷ rest) (last_path (device ∷ rest)) 255

low-gone : (w : Walker) (tried : List Tried) → IsLow w → IsLow (gone_on w tried)
low-gone w [] low = low
low-gone w (top ∷ rest) low =
    go (nat_lt (port_after top.entry top.port) top.ports) (low-gone w rest low)
  where
    go : (b : Bool) → IsLow (gone_on w rest)
        → IsLow (if b then record w {
          tried = record top { port = port_after top.entry top.port } ∷ rest;
          stage = Status;
        }
        else gone_on w rest)
    go true on = low
    go false on = on

low-judged : (w : Walker) (lock : ℕ) → IsLow w → IsLow (judged w lock)
low-judged w lock low = go (eqb lock 0xffff) (nat_lt w.id lock)
  where
    go : (b c : Bool) → IsLow (if b then record w { stage = Claim }
        else (if c then freeing w w.devices else record w { stage = Ask }))
    go true c = low
    go false true = low-freeing w w.devices
    go false false = low

low-taken : (w : Walker) (path : List ℕ) → IsLow (taken (record w { path = path }))
low-taken w [] = (omega arith, (omega arith, tt))
low-taken w (x ∷ rest) = (omega arith, tt)

low-numbered : (w : Walker) (path : List ℕ) → IsLow w → IsLow (numbered w path)
low-numbered w [] low = low
low-numbered w (x ∷ rest) low =
    low-gone (record w {
      devices = w.devices ++ met_as w.devices (Endpoint (id_after w.id w.next)) w.path ∷ [];
      next = id_after w.id w.next + 1;
      todo = write w.path 0x60 (id_after w.id w.next * 0x10000)
          ∷ routes_to w.devices w.path (id_after w.id w.next);
    }) w.tried (omega arith, low-routes w.devices w.path (id_after w.id w.next))

low-outward : (w : Walker) (tried : List Tried) → IsLow w → IsLow (outward w tried)
low-outward w [] low = low
low-outward w (top ∷ rest) low = low-entry top.path 255 top.port

low-told_at : (w : Walker) (value : ℕ) (stage : Stage) → IsLow w → IsLow (told_at w value stage)
low-told_at w value Ask low = go (eqb value w.id)
  where
    go : (b : Bool) → IsLow (if b then record w { stage = Test } else judged w value)
    go true = low
    go false = low-judged w value low
low-told_at w value Claim low = low
low-told_at w value Check low = go (eqb value w.id)
  where
    go : (b : Bool) → IsLow (if b then taken w else judged w value)
    go true = low-taken w w.path
    go false = low-judged w value low
low-told_at w value Test low = go (eqb value 0)
  where
    go : (b : Bool) → IsLow (if b then taken w else gone_on w w.tried)
    go true = low-taken w w.path
    go false = low-gone w w.tried low
low-told_at w value Features low = go (eqb (value / 0x10000000 % 2) 1)
  where
    go : (b : Bool) → IsLow (if b then record w { stage = Information } else numbered w w.path)
    go true = low
    go false = low-numbered w w.path low
low-told_at w value Information low = low-home w.path w.id (value % 0x100)
low-told_at w value Status low = go (eqb value 2)
  where
    go : (b : Bool) → IsLow (if b then outward w w.tried else gone_on w w.tried)
    go true = low-outward w w.tried low
    go false = low-gone w w.tried low
low-told_at w value Free low = low-freeing w (but_last w.devices)
low-told_at w value Done low = low
low-told_at w value Lost low = low

low-settled : (w : Walker) (rest : List PendingWrite) (stage : Stage) (path : List ℕ) → AreLow rest
    → IsLow (settled w rest stage path)
low-settled w (q ∷ rest) stage path low = low
low-settled w [] Ask path low = low
low-settled w [] Claim path low = low
low-settled w [] Check path low = low
low-settled w [] Test path low = low
low-settled w [] Features [] low = low
low-settled w [] Features (x ∷ path) low = low
low-settled w [] Information path low = low
low-settled w [] Status path low = low
low-settled w [] Free path low = low
low-settled w [] Done path low = low
low-settled w [] Lost path low = low

low-told : (w : Walker) (value : ℕ) → IsLow w → IsLow (walker_told w value)
low-told w value low = go w.todo low
  where
    go : (todo : List PendingWrite) → AreLow todo
        → IsLow (walker_told (record w { todo = todo }) value)
    go [] low = low-told_at (record w { todo = [] }) value w.stage low
    go (p ∷ rest) low = low-settled (record w { todo = p ∷ rest }) rest w.stage w.path low.1

pub low-stepped : (w : Walker) (r : AllRegisters) → AreLow w.todo → AreLow (stepped w r).walker.todo
low-stepped w r low = go (wants w)
  where
    at : (ask : Asked) (o : Option PortRef) → IsLow (reached w r ask o).walker
    at ask None = low
    at ask (Some port) = low-told w (answered (r port.node) port.port ask.access).answer.value low

    go : (o : Option Asked) → IsLow (reaches w r o).walker
    go None = low
    go (Some ask) = at ask (entered w.view ask.path)

-- ---- a walker that locks its own host

-- if it goes on with the lock, it asks its host again
abbrev StaysAtHost : Walker → Type 0
StaysAtHost w = is_locking w.stage ≡ true → IsAtHost w

not_locking : {A : Type 0} → false ≡ true → A
not_locking same = absurd (cc)

module _ (w : Walker) (is : w.path ≡ []) where
  abbrev between : Stage → Walker
  between stage = record w { todo = []; stage = stage }

  stays-freeing : (stage : Stage) (devices : List Device)
      → StaysAtHost (freeing (between stage) devices)
  stays-freeing stage [] = λ locks. not_locking locks
  stays-freeing stage (device ∷ rest) = λ locks. not_locking locks

  stays-judged : (stage : Stage) (lock : ℕ) → StaysAtHost (judged (between stage) lock)
  stays-judged stage lock = go (eqb lock 0xffff) (nat_lt w.id lock)
    where
      go : (b c : Bool) → StaysAtHost (if b then between Claim
          else (if c then freeing (between stage) w.devices else between Ask))
      go true c = λ locks. record { path = is; clear = refl; stage = tt }
      go false true = stays-freeing stage w.devices
      go false false = λ locks. not_locking locks

  stays-gone : (stage : Stage) (tried : List Tried) → StaysAtHost (gone_on (between stage) tried)
  stays-gone stage [] = λ locks. not_locking locks
  stays-gone stage (top ∷ rest) =
      go (nat_lt (port_after top.entry top.port) top.ports) (stays-gone stage rest)
    where
      go : (b : Bool) → StaysAtHost (gone_on (between stage) rest)
          → StaysAtHost (if b then record (between stage) {
            tried = record top { port = port_after top.entry top.port } ∷ rest;
            stage = Status;
          }
          else gone_on (between stage) rest)
      go true on = λ locks. not_locking locks
      go false on = on

  stays-told : (stage : Stage) → IsOfLock stage → (value : ℕ)
      → StaysAtHost (told_at (between stage) value stage)
  stays-told Ask locks value = go (eqb value w.id)
    where
      go : (b : Bool) → StaysAtHost (if b then between Test else judged (between Ask) value)
      go true = λ locks. record { path = is; clear = refl; stage = tt }
      go false = stays-judged Ask value
  stays-told Claim locks value = λ locks. record { path = is; clear = refl; stage = tt }
  stays-told Check locks value = go (eqb value w.id)
    where
      go : (b : Bool) → StaysAtHost (if b then taken (between Check)
          else judged (between Check) value)
      go true = λ locks. not_locking locks
      go false = stays-judged Check value
  stays-told Test locks value = go (eqb value 0)
    where
      go : (b : Bool) → StaysAtHost (if b then taken (between Test)
          else gone_on (between Test) w.tried)
      go true = λ locks. not_locking locks
      go false = stays-gone Test w.tried
  stays-told Features none value = absurd none
  stays-told Information none value = absurd none
  stays-told Status none value = absurd none
  stays-told Free none value = absurd none
  stays-told Done none value = absurd none
  stays-told Lost none value = absurd none

pub stays_at_host : (w : Walker) (r : AllRegisters) → IsAtHost w
    → is_locking (stepped w r).walker.stage ≡ true → IsAtHost (stepped w r).walker
stays_at_host w r at = go w.todo at.clear
  where
    asks : (stage : Stage) → IsOfLock stage → (o : Option Asked)
        → StaysAtHost (reaches (record w { todo = []; stage = stage }) r o).walker
    asks stage locks None = λ on. record { path = at.path; clear = refl; stage = locks }
    asks stage locks (Some ask) = there (entered w.view ask.path)
      where
        there : (o : Option PortRef)
            → StaysAtHost (reached (record w { todo = []; stage = stage }) r ask o).walker
        there None = λ on. record { path = at.path; clear = refl; stage = locks }
        there (Some port) =
            stays-told w at.path stage locks
            (answered (r port.node) port.port ask.access).answer.value

    go : (todo : List PendingWrite) → todo ≡ []
        → StaysAtHost (stepped (record w { todo = todo }) r).walker
    go [] clear = asks w.stage at.stage (wants (record w { todo = [] }))
    go (p ∷ rest) clear = absurd (let none : p ∷ rest ≡ [] = clear in cc)
