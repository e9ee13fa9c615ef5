-- A history with a retry, and one with a recovery past ackID 31, played.
use Rattle.link_sound.proofs.Prelude.{◌≡◌, ℕ, zero, suc, true, false, None, List, [], ◌∷◌, ◌++◌, refl, highest_below, from_ack, window, Link, new_link, IsHistory, arrivals}
use Rattle.link_model.specs.Output as out
use Rattle.link_sound.proofs.Played.{Move, First, Second, PutsOne, TakesTurn, Hears, Misses, MeetsError, Empties, played, is_history}

-- what a turn sends for a packet comes to the far port: the packet between its two symbols
abbrev reaches : List Move
reaches = Second Hears ∷ Second Hears ∷ Second Hears ∷ []

-- a packet is put, sent, held and accepted; then its buffer is free again
abbrev exchange : List Move
exchange = First PutsOne ∷ First TakesTurn ∷ reaches ++ Second Empties ∷ First Hears ∷ []

abbrev exchanges : ℕ → List Move
exchanges zero = []
exchanges (suc n) = exchange ++ exchanges n

-- the second packet finds no buffer
abbrev until_retry : List Move
until_retry =
    First PutsOne ∷ First TakesTurn ∷ reaches ++ First Hears ∷ First PutsOne ∷ First TakesTurn
    ∷ reaches ++ First Hears ∷ []

-- a restart-from-retry, and the packet again, where there is a buffer now
abbrev after_retry : List Move
after_retry =
    First TakesTurn ∷ Second Hears ∷ Second Empties ∷ First TakesTurn ∷ reaches ++ First Hears ∷ []

abbrev pub stopped : Link
stopped = played until_retry (new_link false false 4 4)

abbrev pub retried : Link
retried = played after_retry stopped

pub retry_comes : IsHistory (new_link false false 4 4) stopped
retry_comes = is_history until_retry (new_link false false 4 4)

pub retry_ends : IsHistory stopped retried
retry_ends = is_history after_retry stopped

pub is_stopped : stopped.a.output ≡ out.Output.RetryStopped (record {
  oldest = 1;
  prios = 0 ∷ [];
  report = None;
})
unfolding highest_below window played
is_stopped = refl

pub retried_arrive : retried.of_a ≡ arrivals 2
unfolding highest_below window played
retried_arrive = refl

-- 31 packets; of the next two, with ackIDs 31 and 0, the first is corrupted, and the far port is
-- asked which it expects
abbrev until_asked : List Move
until_asked =
    exchanges 31 ++ First PutsOne ∷ First PutsOne ∷ First TakesTurn ∷ First TakesTurn
    ∷ Second Hears ∷ Second Misses ∷ Second MeetsError ∷ Second Hears
    ∷ Second Hears ∷ Second Misses ∷ Second Hears ∷ First Hears ∷ First TakesTurn ∷ []

-- the link-response, and both packets again
abbrev after_asking : List Move
after_asking =
    Second Hears ∷ First Hears ∷ First TakesTurn ∷ First TakesTurn
    ∷ reaches ++ Second Empties ∷ reaches ++ First Hears ∷ First Hears ∷ []

abbrev pub asked : Link
asked = played until_asked (new_link false false 4 4)

abbrev pub recovered : Link
recovered = played after_asking asked

pub recovery_comes : IsHistory (new_link false false 4 4) asked
recovery_comes = is_history until_asked (new_link false false 4 4)

pub recovery_ends : IsHistory asked recovered
recovery_ends = is_history after_asking asked

pub is_asked : asked.a.output ≡ out.Output.ErrorStopped true (record {
  oldest = 31;
  prios = 0 ∷ 0 ∷ [];
  report = None;
})
unfolding highest_below window played
is_asked = refl

pub is_recovered : recovered.a.output ≡ out.Output.Ok (from_ack 1 None)
unfolding highest_below window played
is_recovered = refl

pub recovered_arrive : recovered.of_a ≡ arrivals 33
unfolding highest_below window played
recovered_arrive = refl
