-- The tables over lists of events: in pieces, and without a look at the framer.
use Rattle.link_machine.proofs.Prelude.{◌≡◌, Option, option_to_list, List, [], ◌∷◌, ◌++◌, refl, sym, ap, ◌∙◌, append_assoc, Fields, Place, Event, Ctl, Pkt, Bad, PortState, acts, replies, led}

pub led-append : (p : PortState) (xs ys : List Event) → led p (xs ++ ys) ≡ led (led p xs) ys
unfolding led
led-append p [] ys = refl
led-append p (x ∷ xs) ys = led-append (acts p x).port xs ys

pub replies-append : (p : PortState) (xs ys : List Event)
    → replies p (xs ++ ys) ≡ replies p xs ++ replies (led p xs) ys
unfolding led replies
replies-append p [] ys = refl
replies-append p (x ∷ xs) ys =
    ap (λ (r : List Fields). option_to_list (acts p x).reply ++ r)
    (replies-append (acts p x).port xs ys)
    ∙ sym (append_assoc (option_to_list (acts p x).reply) (replies (acts p x).port xs)
    (replies (led (acts p x).port xs) ys))

-- the framer of a port stands elsewhere
abbrev pub moved : Place → PortState → PortState
moved place port = record port { place = place }

acts_moved : (place : Place) (p : PortState) (e : Event)
    → (acts (moved place p) e).port ≡ moved place (acts p e).port
acts_moved place p (Ctl s) = refl
acts_moved place p (Pkt a packet) = refl
acts_moved place p (Bad c) = refl

reply_moved : (place : Place) (p : PortState) (e : Event)
    → (acts (moved place p) e).reply ≡ (acts p e).reply
reply_moved place p (Ctl s) = refl
reply_moved place p (Pkt a packet) = refl
reply_moved place p (Bad c) = refl

pub led_moved : (place : Place) (p : PortState) (es : List Event)
    → led (moved place p) es ≡ moved place (led p es)
unfolding led
led_moved place p [] = refl
led_moved place p (e ∷ es) =
    ap (λ (q : PortState). led q es) (acts_moved place p e) ∙ led_moved place (acts p e).port es

pub replies_moved : (place : Place) (p : PortState) (es : List Event)
    → replies (moved place p) es ≡ replies p es
unfolding replies
replies_moved place p [] = refl
replies_moved place p (e ∷ es) =
    ap (λ (o : Option Fields). option_to_list o ++ replies (acts (moved place p) e).port es)
    (reply_moved place p e)
    ∙ ap (λ (q : PortState). option_to_list (acts p e).reply ++ replies q es) (acts_moved place p e)
    ∙ ap (λ (r : List Fields). option_to_list (acts p e).reply ++ r)
    (replies_moved place (acts p e).port es)
