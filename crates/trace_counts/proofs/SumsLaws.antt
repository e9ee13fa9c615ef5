-- What characters say is noted run by run, and lines are counted one by one.
use Rattle.std.proofs.Common.{◌≡◌, ℕ, suc, ◌+◌, ◌-◌, ◌<◌, ◌≤◌, List, [], ◌∷◌, ◌++◌, length, take, drop, take-append-drop, map, subst, refl, sym, ap, ap₂, ◌∙◌, ◌*◌, zero, replicate, arith}
use Rattle.std.proofs.lemmas.List.{map-append}
use Rattle.rio_chars.specs.declared.chars.Char.{Char}
use Rattle.link_model.specs.declared.event.Event.{Event}
use Rattle.link_model.specs.Reading.{placed}
use Rattle.link_model.specs.Places.{Place, step, run, place_after}
use Rattle.link_model.specs.Said.{said}
use Rattle.link_model.specs.Fronts.{telling_front}
use Rattle.link_model.proofs.FrontLaws.{front-place, run-telling_front}
use Rattle.link_model.proofs.PlacesLaws.{place_after-append}
use Rattle.rio_framer.specs.declared.events.Events.{Events}
use Rattle.rio_framer.specs.declared.events.Told.{Told}
use Rattle.rio_framer.specs.Framing.{Framing, framing_after}
use Rattle.rio_framer.specs.Giving.{listed, told_of_events, events_by}
use Rattle.rio_framer.proofs.GivingLaws.{events_by-front, listed-front}
use Rattle.trace_lines.specs.declared.lines.TraceLine.{TraceLine}
use Rattle.link_model.proofs.PlacesLaws.{placed_away}
use Rattle.trace_counts.specs.declared.sums.Sums.{Sums}
use Rattle.trace_counts.specs.Sums.{PortCounts, noted, noted_all, nothing_done}
use Rattle.trace_counts.specs.Room.{SumsHaveRoom}
use Rattle.trace_counts.proofs.RoomLaws.{room-noted_all}
use Rattle.trace_counts.specs.Counts.{line_counted, counted_all, counts_of_lines}

pub noted_all-append : (s : Sums) (es fs : List Event)
    → noted_all s (es ++ fs) ≡ noted_all (noted_all s es) fs
noted_all-append s [] fs = refl
noted_all-append s (e ∷ es) fs = noted_all-append (noted s e) es fs

pub counted_all-append : (all : List PortCounts) (ls ms : List TraceLine)
    → counted_all all (ls ++ ms) ≡ counted_all (counted_all all ls) ms
counted_all-append all [] ms = refl
counted_all-append all (l ∷ ls) ms = counted_all-append (line_counted all l) ls ms

-- the events of characters do not depend on the place of the first
said_at : (from : Place) (n : ℕ) (cs : List Char)
    → map (λ (p : ℕ × Event). p.1) (run from n cs) ≡ said from cs
unfolding run
said_at from n [] = refl
said_at from n (c ∷ cs) =
    let gives = (step from c).gives in
    let there = (step from c).place in
    let one = λ (m : ℕ). map-append (λ (p : ℕ × Event). p.1) (placed m gives) (run there (suc m) cs)
    ∙ ap₂ (λ (a b : List Event). a ++ b) (placed_away m gives) (said_at there (suc m) cs) in
    one n ∙ sym (one 0)

-- the events of characters are those of their first run, and those of the rest
pub said-front : (from : Place) (cs : List Char) → 0 < (telling_front from cs).count
    → said from cs ≡ (telling_front from cs).step.gives
    ++ said (telling_front from cs).step.place (drop (telling_front from cs).count cs)
said-front from cs some =
    let front = telling_front from cs in
    let n : ℕ = front.count - 1 in
    let here : 0 + front.count ≡ suc n = omega (arith, some) in
    let rest = drop front.count cs in
    ap (map (λ (p : ℕ × Event). p.1)) (run-telling_front from 0 n cs here)
    ∙ map-append (λ (p : ℕ × Event). p.1) (placed n front.step.gives)
    (run front.step.place (suc n) rest)
    ∙ ap₂ (λ (a b : List Event). a ++ b) (placed_away n front.step.gives)
    (said_at front.step.place (suc n) rest)

pub stands-front : (from : Place) (cs : List Char)
    → place_after (telling_front from cs).step.place (drop (telling_front from cs).count cs)
    ≡ place_after from cs
stands-front from cs =
    ap (λ place. place_after place (drop (telling_front from cs).count cs)) (front-place from cs)
    ∙ sym (place_after-append from (take (telling_front from cs).count cs)
    (drop (telling_front from cs).count cs))
    ∙ ap (place_after from) (take-append-drop (telling_front from cs).count cs)

-- what a run of characters gives is what it tells, with the packet that ended
given_events : (from : Place) (cs : List Char) (told : Told) (new : Framing)
    → told ≡ told_of_events (telling_front from cs).step.gives
    → new ≡ framing_after (telling_front from cs).step
    → listed (events_by told new.ended).first (events_by told new.ended).second
    ≡ (telling_front from cs).step.gives
given_events from cs told new told_is new_is =
    ap (λ t. listed (events_by t new.ended).first (events_by t new.ended).second) told_is
    ∙ ap (λ (f : Framing). listed
    (events_by (told_of_events (telling_front from cs).step.gives) f.ended).first
    (events_by (told_of_events (telling_front from cs).step.gives) f.ended).second) new_is
    ∙ ap (λ (e : Events). listed e.first e.second) (events_by-front from cs)
    ∙ listed-front from cs

-- the sums of characters are those of their first run, and then those of the rest
pub sums-front : (s s2 : Sums) (from : Place) (cs rest : List Char) (count : ℕ) (told : Told)
    (new : Framing) → 0 < count → count ≡ (telling_front from cs).count
    → told ≡ told_of_events (telling_front from cs).step.gives
    → new ≡ framing_after (telling_front from cs).step → rest ≡ drop count cs
    → s2 ≡ noted_all s
    (listed (events_by told new.ended).first (events_by told new.ended).second)
    → noted_all s2 (said new.place rest) ≡ noted_all s (said from cs)
sums-front s s2 from cs rest count told new some count_is told_is new_is rest_is noted_is =
    let front = telling_front from cs in
    let there : 0 < front.count = omega (arith, count_is, some) in
    let rest_here : rest ≡ drop front.count cs = rest_is ∙ ap (λ k. drop k cs) count_is in
    ap₂ (λ (a : Sums) (es : List Event). noted_all a es)
    (noted_is ∙ ap (noted_all s) (given_events from cs told new told_is new_is))
    (ap₂ (λ (p : Place) (r : List Char). said p r) (ap (λ (f : Framing). f.place) new_is)
    rest_here)
    ∙ sym (noted_all-append s front.step.gives (said front.step.place (drop front.count cs)))
    ∙ ap (noted_all s) (sym (said-front from cs there))

-- what the first run of characters adds
pub room-front : (s : Sums) (from : Place) (cs : List Char) (count : ℕ) (told : Told)
    (new : Framing) → 0 < count → count ≡ (telling_front from cs).count
    → told ≡ told_of_events (telling_front from cs).step.gives
    → new ≡ framing_after (telling_front from cs).step → SumsHaveRoom (noted_all s (said from cs))
    → SumsHaveRoom (noted_all s
    (listed (events_by told new.ended).first (events_by told new.ended).second))
room-front s from cs count told new some count_is told_is new_is room =
    let front = telling_front from cs in
    let there : 0 < front.count = omega (arith, count_is, some) in
    let rest = said front.step.place (drop front.count cs) in
    let whole : SumsHaveRoom (noted_all (noted_all s front.step.gives) rest) =
    subst SumsHaveRoom (ap (noted_all s) (said-front from cs there)
    ∙ noted_all-append s front.step.gives rest) room in
    subst SumsHaveRoom (sym (ap (noted_all s) (given_events from cs told new told_is new_is)))
    (room-noted_all (noted_all s front.step.gives) rest whole)

-- where the reading of characters goes on behind their first run
pub stands-read : (from : Place) (cs rest : List Char) (count : ℕ) (new : Framing)
    → count ≡ (telling_front from cs).count → new ≡ framing_after (telling_front from cs).step
    → rest ≡ drop count cs → place_after new.place rest ≡ place_after from cs
stands-read from cs rest count new count_is new_is rest_is =
    ap₂ (λ (p : Place) (r : List Char). place_after p r) (ap (λ (f : Framing). f.place) new_is)
    (rest_is ∙ ap (λ k. drop k cs) count_is)
    ∙ stands-front from cs

-- the counts of a port
abbrev pub counts : Place → Sums → PortCounts
counts p s = record { place = p; sums = s }

-- behind all characters
pub sums-end : (s begun : Sums) (p from : Place) (left cs : List Char) → length left ≤ 0
    → noted_all s (said p left) ≡ noted_all begun (said from cs)
    → place_after p left ≡ place_after from cs
    → counts p s ≡ counts (place_after from cs) (noted_all begun (said from cs))
unfolding run place_after
sums-end s begun p from [] cs none sums stands = ap₂ counts stands sums
sums-end s begun p from (c ∷ left) cs none sums stands = absurd (omega arith)

one_more_port : (n : ℕ) → replicate n nothing_done ++ nothing_done ∷ []
    ≡ replicate (suc n) nothing_done
one_more_port zero = refl
one_more_port (suc n) = ap (λ (r : List PortCounts). nothing_done ∷ r) (one_more_port n)

-- a port more at which nothing was done
pub ports-more : (n : ℕ) (items more : List PortCounts) (one : PortCounts)
    → items ≡ replicate n nothing_done → one ≡ nothing_done → more ≡ items ++ one ∷ []
    → more ≡ replicate (n + 1) nothing_done
ports-more n items more one are is more_is =
    let next : suc n ≡ n + 1 = omega arith in
    more_is
    ∙ ap₂ (λ (xs : List PortCounts) (x : PortCounts). xs ++ x ∷ []) are is
    ∙ one_more_port n ∙ ap (λ k. replicate k nothing_done) next

-- all ports
pub ports-all : (n end nodes : ℕ) (items : List PortCounts) → n ≤ 16 * end → 16 * end ≤ n
    → end ≡ nodes → items ≡ replicate n nothing_done → items ≡ counts_of_lines nodes []
ports-all n end nodes items most least is are =
    let same : n ≡ nodes * 16 = omega (arith, is, least, most) in
    are ∙ ap (λ k. replicate k nothing_done) same

-- the counts behind one line more
pub counts-more : (nodes : ℕ) (ls : List TraceLine) (l : TraceLine) (old new : List PortCounts)
    → new ≡ line_counted old l → old ≡ counts_of_lines nodes ls
    → new ≡ counts_of_lines nodes (ls ++ l ∷ [])
counts-more nodes ls l old new new_is old_is =
    new_is ∙ ap (λ (all : List PortCounts). line_counted all l) old_is
    ∙ sym (counted_all-append (replicate (nodes * 16) nothing_done) ls (l ∷ []))
