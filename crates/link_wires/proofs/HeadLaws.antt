-- Events that stand as heads and bytes.
use Rattle.std.proofs.Common.{◌≡◌, ℕ, ◌+◌, ◌++◌, ◌≤◌, List, [], ◌∷◌, length, drop, refl, ap, ◌∙◌, arith, length-drop, length-append}
use Rattle.std.proofs.lemmas.List.{take-append-le, drop-append-le}
use Rattle.link_model.specs.declared.event.Event.{Event}
use Rattle.link_model.specs.declared.event.Event.TheVariants.{Pkt}
use Rattle.link_wires.specs.declared.kept.Head.{Head}
use Rattle.link_wires.specs.declared.kept.Head.TheVariants as head
use Rattle.link_wires.specs.Heads.{head_size, event_of, events_of, size_of_all}

-- bytes behind those of an event
event_of-append : (h : Head) (bytes more : List ℕ) → head_size h ≤ length bytes
    → event_of h (bytes ++ more) ≡ event_of h bytes
event_of-append (head.Symbol symbol) bytes more within = refl
event_of-append (head.Packet ack size) bytes more within =
    ap (λ (l : List ℕ). Pkt ack l) (take-append-le size bytes more within)

no_bytes : (bytes more : List ℕ) → 0 ≡ length bytes → bytes ++ more ≡ more
no_bytes [] more is = refl
no_bytes (b ∷ bytes) more is = absurd (omega arith)

-- an event behind others
events_of-append : (heads : List Head) (h : Head) (bytes more : List ℕ)
    → size_of_all heads ≡ length bytes
    → events_of (heads ++ h ∷ []) (bytes ++ more) ≡ events_of heads bytes ++ event_of h more ∷ []
events_of-append [] h bytes more is =
    ap (λ (l : List ℕ). event_of h l ∷ []) (no_bytes bytes more is)
events_of-append (x ∷ heads) h bytes more is =
    let within : head_size x ≤ length bytes = omega arith in
    let left : size_of_all heads ≡ length (drop (head_size x) bytes) =
    omega (arith, length-drop (head_size x) bytes) in
    ap (λ (e : Event). e ∷ events_of (heads ++ h ∷ []) (drop (head_size x) (bytes ++ more)))
    (event_of-append x bytes more within)
    ∙ ap (λ (l : List ℕ). event_of x bytes ∷ events_of (heads ++ h ∷ []) l)
    (drop-append-le (head_size x) bytes more within)
    ∙ ap (λ (l : List Event). event_of x bytes ∷ l)
    (events_of-append heads h (drop (head_size x) bytes) more left)

size_of_all-append : (heads : List Head) (h : Head)
    → size_of_all (heads ++ h ∷ []) ≡ size_of_all heads + head_size h
size_of_all-append [] h = omega arith
size_of_all-append (x ∷ heads) h = omega (arith, size_of_all-append heads h)

-- an event was put behind others, and the bytes of its packet behind theirs
pub put_behind :
    (heads there later : List Head) (h : Head) (bytes after more : List ℕ) (before : List Event)
    → size_of_all heads ≡ length bytes → events_of heads bytes ≡ before → head_size h ≡ length more
    → there ≡ heads → later ≡ there ++ h ∷ [] → after ≡ bytes ++ more
    → (size_of_all later ≡ length after) × (events_of later after ≡ before ++ event_of h more ∷ [])
put_behind heads there later h bytes after more before sizes events size same put behind =
    let all : later ≡ heads ++ h ∷ [] = put ∙ ap (λ (l : List Head). l ++ h ∷ []) same in
    let sum : size_of_all later ≡ size_of_all heads + head_size h =
    ap size_of_all all ∙ size_of_all-append heads h in
    let long : length after ≡ length bytes + length more =
    ap length behind ∙ length-append bytes more in (
      omega arith,
      (λ i. events_of (all i) (behind i))
          ∙ events_of-append heads h bytes more sizes
          ∙ ap (λ (l : List Event). l ++ event_of h more ∷ []) events,
    )
