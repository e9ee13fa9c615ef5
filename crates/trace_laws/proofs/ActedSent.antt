-- Lines by which nothing was found act on what was sent, at each delivery.
use Rattle.trace_laws.proofs.Prelude.{◌≡◌, List, [], ◌∷◌, Option, Some, None, refl, sym, ap, ◌∙◌, undetected, PortRef, Sent, Got, Fired, TraceLine, Begun, Stepped, Signed, Lacked, Ended, Undetected, Seen, UndetectedAt, peer_of, edit_of, taken_from, got_from, seen_line, seen, begins, edited_found, fired_found, good_start, IsSentActing, AreSentActing, UnfoundIsSent}
use Rattle.fabric_trace.specs.Firsts.{FindsFirst}
use Rattle.fabric_trace.proofs.Shown.Failing.{made_works}
use Rattle.fabric_trace.proofs.Shown.Faith.{AreKept, begins_kept, lines_keep, sent_exactly}
use Rattle.trace_laws.proofs.Running.{all_sent}

-- what was found stays found, since no port gets anything behind it
stays_found : (s : Seen) (lines : List TraceLine) (found : UndetectedAt) → FindsFirst s lines
    → s.undetected ≡ Some found → (seen s lines).undetected ≡ Some found
stays_found s [] found first is = is
stays_found s (Begun line ∷ lines) found first is =
    stays_found (seen_line s (Begun line)) lines found first.1
    (edited_found s (edit_of line) ∙ is)
stays_found s (Stepped step ∷ lines) found first is =
    stays_found (seen_line s (Stepped step)) lines found first.1 is
stays_found s (Signed (Sent p chars) ∷ lines) found first is =
    stays_found (seen_line s (Signed (Sent p chars))) lines found first.1 is
stays_found s (Signed (Got q chars) ∷ lines) found first is =
    (let none = first.0 in absurd (cc (none, is)))
stays_found s (Signed (Fired p) ∷ lines) found first is =
    stays_found (seen_line s (Signed (Fired p))) lines found first.1
    (fired_found s (peer_of s p) p ∙ is)
stays_found s (Lacked lack ∷ lines) found first is = stays_found s lines found first.1 is
stays_found s (Ended ∷ lines) found first is = stays_found s lines found first.1 is
stays_found s (Undetected number q e ∷ lines) found first is = stays_found s lines found first.1 is

-- so nothing was found at any line, if nothing is at the end
none_yet : (s : Seen) (lines : List TraceLine) → FindsFirst s lines
    → (seen s lines).undetected ≡ None → s.undetected ≡ None
none_yet s lines first none = go s.undetected refl
  where
    go : (o : Option UndetectedAt) → s.undetected ≡ o → s.undetected ≡ None
    go None is = is
    go (Some found) is =
        (let stays = stays_found s lines found first is in absurd (cc (none, stays)))

acting : (s : Seen) (lines : List TraceLine) → AreKept s → FindsFirst s lines
    → (seen s lines).undetected ≡ None → AreSentActing s lines
acting s [] kept first none = tt
acting s (line ∷ lines) kept first none = (
  by_line line (none_yet (seen_line s line) lines first.1 none),
  acting (seen_line s line) lines (lines_keep s (line ∷ []) kept) first.1 none,
)
  where
    by_line : (line : TraceLine) → (seen_line s line).undetected ≡ None → IsSentActing s line
    by_line (Begun line) still = tt
    by_line (Stepped step) still = tt
    by_line (Signed (Sent p chars)) still = tt
    by_line (Signed (Got q chars)) still = λ p peer.
        (sent_exactly s p q chars (kept p)).0
        (all_sent q (undetected (taken_from s p q chars))
        (sym (ap (λ (o : Option PortRef). (got_from s o q chars).undetected) peer) ∙ still))
    by_line (Signed (Fired p)) still = tt
    by_line (Lacked lack) still = tt
    by_line Ended still = tt
    by_line (Undetected number q e) still = tt

pub unfound_is_sent : UnfoundIsSent
unfound_is_sent net lines is made none =
    acting (begins net) lines (begins_kept net)
    (made_works (good_start net is) made (λ p. λ failed. cc)).first none
