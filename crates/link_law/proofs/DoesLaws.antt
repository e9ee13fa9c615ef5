-- Parts of the schedule that calls do, one after another.
use Rattle.link_law.proofs.Prelude.{◌≡◌, Bool, true, false, MatchBool, List, [], ◌∷◌, ◌++◌, refl, sym, ap, ◌∙◌, subst, append_assoc, append-nil, Result, Ok, Err, Event, IsWatch, stopped_at_once, stopped_then, stopped_before, Note, Side, A, B, LinkState, Stopped, LinkEnd, Undetected, NextOf, WhereOf, Act, Reached, At, FoundAt, after_act, act_notes, goes, acts_notes, SchedulePart, Empties, of_end, first_has_chars, all_chars, goes-append, goes_none, Comes, Stops, Ends, CallDid}

notes_found : (side : Side) (e : Event) (ys : List Act) → acts_notes (FoundAt side e) ys ≡ []
unfolding acts_notes
notes_found side e [] = refl
notes_found side e (y ∷ ys) = refl

pub notes-append : (xs ys : List Act) (r : Reached)
    → acts_notes r (xs ++ ys) ≡ acts_notes r xs ++ acts_notes (goes r xs) ys
unfolding acts_notes goes
notes-append [] ys r = refl
notes-append (x ∷ xs) ys (At s) =
    ap (λ (notes : List Note). act_notes x s ++ notes) (notes-append xs ys (after_act x s))
    ∙ sym
    (append_assoc (act_notes x s) (acts_notes (after_act x s) xs)
    (acts_notes (goes (after_act x s) xs) ys))
notes-append (x ∷ xs) ys (FoundAt side e) = sym (notes_found side e ys)

-- ---- one part and then another

joined : (P Q : SchedulePart) (before mid : LinkState) (xs ys : List Act)
    → goes (At before) xs ≡ At mid → P (At before) xs → Q (At mid) ys
    → NextOf goes P Q (At before) (xs ++ ys)
joined P Q before mid xs ys there first next =
    (xs, ys, refl, first, subst (λ (r : Reached). Q r ys) (sym there) next)

notes_joined : (before mid : LinkState) (xs ys : List Act) → goes (At before) xs ≡ At mid
    → acts_notes (At before) (xs ++ ys) ≡ acts_notes (At before) xs ++ acts_notes (At mid) ys
notes_joined before mid xs ys there =
    notes-append xs ys (At before)
    ∙ ap (λ (r : Reached). acts_notes (At before) xs ++ acts_notes r ys) there

pub comes_next : {W : Type 0} {grew : W → List Note → W → Type 0} {cut : W → Note → W → Type 0}
    → IsWatch grew cut
    → (P Q : SchedulePart) (before mid : LinkState) (old w new : W) (to : Reached)
    → Comes grew P before old (At mid) w → Comes grew Q mid w to new
    → Comes grew (NextOf goes P Q) before old to new
comes_next {W} {grew} watch P Q before mid old w new to first next = record {
  acts = first.acts ++ next.acts;
  part = joined P Q before mid first.acts next.acts first.reached first.part next.part;
  reached =
      goes-append first.acts next.acts (At before)
      ∙ ap (λ (r : Reached). goes r next.acts) first.reached
      ∙ next.reached;
  grown =
      subst (λ (l : List Note). grew old l new)
      (sym (notes_joined before mid first.acts next.acts first.reached))
      (watch.on old w new (acts_notes (At before) first.acts) (acts_notes (At mid) next.acts)
      first.grown next.grown);
}

stops_next : {W : Type 0} {grew : W → List Note → W → Type 0} {cut : W → Note → W → Type 0}
    → IsWatch grew cut → (P Q : SchedulePart) (before mid : LinkState) (old w new : W)
    → Comes grew P before old (At mid) w → Stops grew cut Q mid w new
    → Stops grew cut (NextOf goes P Q) before old new
stops_next {W} {grew} {cut} watch P Q before mid old w new first next = record {
  acts = first.acts ++ next.acts;
  part = joined P Q before mid first.acts next.acts first.reached first.part next.part;
  stopped =
      subst (λ (l : List Note). Stopped grew cut old l new)
      (sym (notes_joined before mid first.acts next.acts first.reached))
      (stopped_then watch old w new (acts_notes (At before) first.acts)
      (acts_notes (At mid) next.acts) first.grown next.stopped);
}

pub ends_next : {W : Type 0} (grew : W → List Note → W → Type 0) (cut : W → Note → W → Type 0)
    → IsWatch grew cut
    → (P Q : SchedulePart) (before mid : LinkState) (old w new : W) (end : LinkEnd)
    → Comes grew P before old (At mid) w → Ends grew cut Q mid w end new
    → Ends grew cut (NextOf goes P Q) before old end new
ends_next grew cut watch P Q before mid old w new (Undetected side e) first does =
    comes_next watch P Q before mid old w new (FoundAt side e) first does
ends_next grew cut watch P Q before mid old w new _ first does =
    stops_next watch P Q before mid old w new first does

-- ---- the first part ended the call

-- what may follow a part can always be done, where a sound link is asked for; and nothing of it is
-- done after an event that was not sent
pub record Follows (P Q : SchedulePart) (before : LinkState) : Type 0 where
  pub found : (side : Side) (e : Event) → Q (FoundAt side e) []
  pub can : (acts : List Act) → P (At before) acts
      → (all : List Act) × Q (goes (At before) acts) all

stops_early : {W : Type 0} {grew : W → List Note → W → Type 0} {cut : W → Note → W → Type 0}
    → IsWatch grew cut → (P Q : SchedulePart) (before : LinkState) (old new : W)
    → Follows P Q before
    → Stops grew cut P before old new → Stops grew cut (NextOf goes P Q) before old new
stops_early {W} {grew} {cut} watch P Q before old new follows first =
    let more = follows.can first.acts first.part in
    let later = acts_notes (goes (At before) first.acts) more.0 in
    record {
      acts = first.acts ++ more.0;
      part = (first.acts, more.0, refl, first.part, more.1);
      stopped =
          subst (λ (l : List Note). Stopped grew cut old l new)
          (sym (notes-append first.acts more.0 (At before)))
          (stopped_before watch old new (acts_notes (At before) first.acts) later
          first.stopped);
    }

comes_early : {W : Type 0} {grew : W → List Note → W → Type 0}
    → (P Q : SchedulePart) (before : LinkState) (old new : W) (side : Side) (e : Event)
    → Follows P Q before
    → Comes grew P before old (FoundAt side e) new
    → Comes grew (NextOf goes P Q) before old (FoundAt side e) new
comes_early {W} {grew} P Q before old new side e follows first =
    let there = first.reached in
    let same : first.acts ++ [] ≡ first.acts = append-nil first.acts in
    record {
      acts = first.acts ++ [];
      part = (
        first.acts,
        [],
        refl,
        first.part,
        subst (λ (r : Reached). Q r []) (sym there) (follows.found side e),
      );
      reached = ap (goes (At before)) same ∙ there;
      grown =
          subst (λ (acts : List Act). grew old (acts_notes (At before) acts) new) (sym same)
          first.grown;
    }

pub ends_early : {W : Type 0} (grew : W → List Note → W → Type 0) (cut : W → Note → W → Type 0)
    → IsWatch grew cut → (P Q : SchedulePart) (before : LinkState) (old new : W) (end : LinkEnd)
    → Follows P Q before
    → Ends grew cut P before old end new → Ends grew cut (NextOf goes P Q) before old end new
ends_early grew cut watch P Q before old new (Undetected side e) follows first =
    comes_early P Q before old new side e follows first
ends_early grew cut watch P Q before old new _ follows first =
    stops_early watch P Q before old new follows first

-- ---- a part where a test holds

pub comes_where : {W : Type 0} {grew : W → List Note → W → Type 0}
    → (test : Reached → Bool) (P : SchedulePart) (before : LinkState) (old new : W) (to : Reached)
    → test (At before) ≡ true
    → Comes grew P before old to new → Comes grew (WhereOf test P) before old to new
comes_where test P before old new to is h = record {
  acts = h.acts;
  part = subst (λ (b : Bool). MatchBool b (P (At before) h.acts) (h.acts ≡ [])) (sym is) h.part;
  reached = h.reached;
  grown = h.grown;
}

pub stops_where : {W : Type 0} {grew : W → List Note → W → Type 0} {cut : W → Note → W → Type 0}
    → (test : Reached → Bool) (P : SchedulePart) (before : LinkState) (old new : W)
    → test (At before) ≡ true
    → Stops grew cut P before old new → Stops grew cut (WhereOf test P) before old new
stops_where test P before old new is h = record {
  acts = h.acts;
  part = subst (λ (b : Bool). MatchBool b (P (At before) h.acts) (h.acts ≡ [])) (sym is) h.part;
  stopped = h.stopped;
}

pub ends_where : {W : Type 0} (grew : W → List Note → W → Type 0) (cut : W → Note → W → Type 0)
    (test : Reached → Bool) (P : SchedulePart) (before : LinkState) (old new : W) (end : LinkEnd)
    → test (At before) ≡ true
    → Ends grew cut P before old end new → Ends grew cut (WhereOf test P) before old end new
ends_where grew cut test P before old new (Undetected side e) is h =
    comes_where test P before old new (FoundAt side e) is h
ends_where grew cut test P before old new _ is h = stops_where test P before old new is h

-- where it does not, nothing is done
pub comes_none : {W : Type 0} (grew : W → List Note → W → Type 0) (cut : W → Note → W → Type 0)
    → IsWatch grew cut → (test : Reached → Bool) (P : SchedulePart) (before : LinkState) (old : W)
    → test (At before) ≡ false
    → Comes grew (WhereOf test P) before old (At before) old
unfolding acts_notes
comes_none grew cut watch test P before old is =
    let none : List Act = [] in
    record {
      acts = none;
      part = subst (λ (b : Bool). MatchBool b (P (At before) none) (none ≡ none)) (sym is) refl;
      reached = goes_none (At before);
      grown = watch.none old;
    }

-- ---- by what a call answers

pub did_next : {W : Type 0} {grew : W → List Note → W → Type 0} {cut : W → Note → W → Type 0}
    → IsWatch grew cut
    → {P : SchedulePart} (Q : SchedulePart) {before mid : LinkState} {old w : W} (new : W)
    (result : Result (Unit {0}) LinkEnd) (next : LinkState) → Comes grew P before old (At mid) w
    → CallDid grew cut Q mid w result next new
    → CallDid grew cut (NextOf goes P Q) before old result next new
did_next watch {P} Q {before} {mid} {old} {w} new (Ok done) next first does =
    comes_next watch P Q before mid old w new (At next) first does
did_next {W} {grew} {cut} watch {P} Q {before} {mid} {old} {w} new (Err end) next first does =
    ends_next grew cut watch P Q before mid old w new end first does

pub did_where : {W : Type 0} (grew : W → List Note → W → Type 0) (cut : W → Note → W → Type 0)
    (test : Reached → Bool) (P : SchedulePart) (before : LinkState) (old new : W)
    (result : Result (Unit {0}) LinkEnd) (next : LinkState) → test (At before) ≡ true
    → CallDid grew cut P before old result next new
    → CallDid grew cut (WhereOf test P) before old result next new
did_where grew cut test P before old new (Ok done) next is h =
    comes_where test P before old new (At next) is h
did_where grew cut test P before old new (Err end) next is h =
    ends_where grew cut test P before old new end is h

-- a call that is given up with what a call in it answered
pub did_end : {W : Type 0} (grew : W → List Note → W → Type 0) (cut : W → Note → W → Type 0)
    (P : SchedulePart) (before : LinkState) (old new : W) (end : LinkEnd)
    (result : Result (Unit {0}) LinkEnd) (next : LinkState) → result ≡ Err end
    → Ends grew cut P before old end new → CallDid grew cut P before old result next new
did_end grew cut P before old new end result next same ends =
    subst (λ r. CallDid grew cut P before old r next new) (sym same) ends

pub did_early : {W : Type 0} {grew : W → List Note → W → Type 0} {cut : W → Note → W → Type 0}
    → IsWatch grew cut → {P Q : SchedulePart} {before : LinkState} (old new : W) (end : LinkEnd)
    (result : Result (Unit {0}) LinkEnd) (next : LinkState) → Follows P Q before
    → result ≡ Err end → Ends grew cut P before old end new
    → CallDid grew cut (NextOf goes P Q) before old result next new
did_early {W} {grew} {cut} watch {P} {Q} {before} old new end result next follows same ends =
    did_end grew cut (NextOf goes P Q) before old new end result next same
    (ends_early grew cut watch P Q before old new end follows ends)

-- ---- one call

-- nothing is taken in yet
pub stops_at_once : {W : Type 0} (grew : W → List Note → W → Type 0) (cut : W → Note → W → Type 0)
    → IsWatch grew cut → (P : SchedulePart) (before : LinkState) (old : W) (acts : List Act)
    → P (At before) acts → Stops grew cut P before old old
stops_at_once grew cut watch P before old acts part = record {
  acts = acts;
  part = part;
  stopped = stopped_at_once watch old (acts_notes (At before) acts);
}

-- ---- deliveries of what stands on a wire

empties_found : (from side : Side) (e : Event) → Empties from (FoundAt side e) []
empties_found from side e = refl

empties_can : (from : Side) (r : Reached) → (all : List Act) × Empties from r all
empties_can from r = by (of_end from first_has_chars r)
  where
    by : (b : Bool) → (all : List Act) × MatchBool b (all ≡ all_chars from r) (all ≡ [])
    by true = (all_chars from r, refl)
    by false = ([], refl)

pub empties_follow : (before : LinkState) → Follows (Empties A) (Empties B) before
empties_follow before = record {
  found = empties_found B;
  can = λ acts part. empties_can B (goes (At before) acts);
}
