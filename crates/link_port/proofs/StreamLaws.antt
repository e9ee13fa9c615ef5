-- Characters one after another do what their reading does.
use Rattle.std.proofs.Common.{◌≡◌, ℕ, suc, Option, Some, None, option_to_list, List, [], ◌∷◌, ◌++◌, map, refl, sym, ap, ◌∙◌, append_assoc, append-nil}
use Rattle.std.specs.Option.{option_or}
use Rattle.std.proofs.lemmas.List.{map-append}
use Rattle.link_model.specs.Prelude.{Char, Place, step, run, place_after, placed, said}
use Rattle.link_model.specs.declared.event.Event.{Event}
use Rattle.link_model.specs.declared.event.Event.TheVariants.{Ctl, Pkt, Bad}
use Rattle.link_model.specs.Places.{AreGiven}
use Rattle.link_model.proofs.PlacesLaws.{given, events_of, placed_away}
use Rattle.link_port.specs.Ports.{PortState}
use Rattle.link_port.specs.Steps.{Acted, acts, acts_all, joined, takes, read, after_reading, after_hearing}
use Rattle.link_port.specs.Streams.{Streamed, unmoved, followed, takes_each, acts_each}
use Rattle.link_port.proofs.ActLaws.{joined-idle}
use Rattle.link_port.proofs.ReplyLaws.{start_or_end_has_none}

-- the port, whose framer stands elsewhere
abbrev at_place : Place → PortState → PortState
at_place place port = record port { place = place }

abbrev moved : Place → Streamed → Streamed
moved place all = record all { port = at_place place all.port }

-- The tables neither look at the framer's place nor change it.
acts_moved : (p : Place) (port : PortState) (e : Event)
    → acts (at_place p port) e ≡ record (acts port e) { port = at_place p (acts port e).port }
acts_moved p port (Ctl s) = refl
acts_moved p port (Pkt ack packet) = refl
acts_moved p port (Bad cause) = refl

acts_stays : (port : PortState) (e : Event) → (acts port e).port.place ≡ port.place
acts_stays port (Ctl s) = refl
acts_stays port (Pkt ack packet) = refl
acts_stays port (Bad cause) = refl

all_stays : (port : PortState) (es : List Event) → (acts_all port es).port.place ≡ port.place
unfolding acts_all
all_stays port [] = refl
all_stays port (e ∷ es) = all_stays (acts port e).port es ∙ acts_stays port e

each_moved : (p : Place) (port : PortState) (es : List Event)
    → acts_each (at_place p port) es ≡ moved p (acts_each port es)
unfolding acts_each
each_moved p port [] = refl
each_moved p port (e ∷ es) =
    ap (λ (a : Acted). followed a (acts_each a.port es)) (acts_moved p port e)
    ∙ ap (followed (acts port e)) (each_moved p (acts port e).port es)

-- streams, one behind another
abbrev behind : Streamed → Streamed → Streamed
behind first more = record {
  port = more.port;
  replies = first.replies ++ more.replies;
  held = first.held ++ more.held;
  freed = first.freed ++ more.freed;
}

followed-behind : (a : Acted) (xs ys : Streamed)
    → followed a (behind xs ys) ≡ behind (followed a xs) ys
followed-behind a xs ys = λ i. record {
  port = ys.port;
  replies = sym (append_assoc (option_to_list a.reply) xs.replies ys.replies) i;
  held = sym (append_assoc (option_to_list a.held) xs.held ys.held) i;
  freed = sym (append_assoc a.freed xs.freed ys.freed) i;
}

each-append : (port : PortState) (xs ys : List Event)
    → acts_each port (xs ++ ys) ≡ behind (acts_each port xs) (acts_each (acts_each port xs).port ys)
unfolding acts_each
each-append port [] ys = refl
each-append port (x ∷ xs) ys =
    let next = (acts port x).port in
    ap (followed (acts port x)) (each-append next xs ys)
    ∙ followed-behind (acts port x) (acts_each next xs) (acts_each (acts_each next xs).port ys)

-- The events of one character: the second of two, which ends a packet, has neither an answer nor a
-- packet.
merged : {A : Type 0} (x y : Option A) → y ≡ None
    → option_to_list (option_or x y) ≡ option_to_list x ++ (option_to_list y ++ [])
merged None None none = refl
merged None (Some y) none = refl
merged (Some x) None none = refl
merged (Some x) (Some y) none = absurd cc

followed_one : (a : Acted) (more : Streamed)
    → followed a more ≡ behind (followed a (unmoved a.port)) more
followed_one a more = λ i. record {
  port = more.port;
  replies = sym (append-nil (option_to_list a.reply)) i ++ more.replies;
  held = sym (append-nil (option_to_list a.held)) i ++ more.held;
  freed = sym (append-nil a.freed) i ++ more.freed;
}

followed_two : (a b : Acted) (more : Streamed) → b.reply ≡ None → b.held ≡ None
    → followed (joined a b) more ≡ behind (followed a (followed b (unmoved b.port))) more
followed_two a b more none no_packet = λ i. record {
  port = more.port;
  replies = merged a.reply b.reply none i ++ more.replies;
  held = merged a.held b.held no_packet i ++ more.held;
  freed = (a.freed ++ sym (append-nil b.freed) i) ++ more.freed;
}

of_one : (port : PortState) (es : List Event) (more : Streamed) → AreGiven es
    → followed (acts_all port es) more ≡ behind (acts_each port es) more
unfolding acts_all acts_each
of_one port [] more are = refl
of_one port (e ∷ []) more are =
    ap (λ (a : Acted). followed a more) (joined-idle (acts port e))
    ∙ followed_one (acts port e) more
of_one port (e ∷ x ∷ []) more (bytes, s, first, second, ends) =
    let a = acts port e in
    let b = acts a.port x in
    let none : b.reply ≡ None =
    ap (λ (y : Event). (acts a.port y).reply) second
    ∙ start_or_end_has_none (after_hearing a.port s).input s.s1 s.cmd ends in
    let no_packet : b.held ≡ None = ap (λ (y : Event). (acts a.port y).held) second in
    ap (λ (then : Acted). followed (joined a then) more) (joined-idle b)
    ∙ followed_two a b more none no_packet
of_one port (e ∷ x ∷ y ∷ es) more are = absurd are

each_port : (port : PortState) (es : List Event)
    → (acts_each port es).port ≡ (acts_all port es).port
unfolding acts_all acts_each
each_port port [] = refl
each_port port (e ∷ es) = each_port (acts port e).port es

-- a character, and the events of those behind it
one_more :
    (port : PortState) (c : Char) (p : Place) (es : List Event)
    → followed (takes port c) (acts_each (at_place p (takes port c).port) es)
    ≡ acts_each (at_place p port) (read port c ++ es)
one_more port c p es =
    let here = after_reading port c in
    let all = acts_each here (read port c) in
    of_one here (read port c) (acts_each (at_place p (takes port c).port) es) (given port.place c)
    ∙ ap (λ (q : PortState). behind all (acts_each (at_place p q) es))
    (sym (each_port here (read port c)))
    ∙ ap (λ (x : Streamed). behind x (acts_each x.port es)) (sym (each_moved p here (read port c)))
    ∙ sym (each-append (at_place p port) (read port c) es)

by_reading : (port : PortState) (n : ℕ) (cs : List Char)
    → takes_each port cs
    ≡ acts_each (at_place (place_after port.place cs) port) (events_of (run port.place n cs))
unfolding takes_each acts_each run place_after
by_reading port n [] = refl
by_reading port n (c ∷ cs) =
    let next = (takes port c).port in
    let there = (step port.place c).place in
    let p = place_after there cs in
    let es = events_of (run there (suc n) cs) in
    ap (followed (takes port c)) (by_reading next (suc n) cs
    ∙ ap (λ (from : Place). acts_each (at_place (place_after from cs) next)
    (events_of (run from (suc n) cs))) (all_stays (after_reading port c) (read port c)))
    ∙ one_more port c p es
    ∙ ap (λ (first : List Event). acts_each (at_place p port) (first ++ es))
    (sym (placed_away n (read port c)))
    ∙ ap (acts_each (at_place p port)) (sym (map-append (λ (q : ℕ × Event). q.1)
    (placed n (read port c)) (run there (suc n) cs)))

pub characters_are_their_reading : (port : PortState) (cs : List Char)
    → takes_each port cs
    ≡ acts_each (record port { place = place_after port.place cs }) (said port.place cs)
characters_are_their_reading port cs = by_reading port 0 cs
