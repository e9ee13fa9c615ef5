-- A link in which a port is told of free buffers before it starts a packet, and one in which it is
-- not.
use Rattle.link_sound.proofs.Prelude.{true, false, [], refl, arith, ◌≡◌, List, ◌∷◌, status, Event, Ctl, new_port, highest_below, window, ReceiverRetryStopped, receiver_of, HasTold, Link, AreBuffers, new_link, link_turned_round, after_telling, after_event, StepTells, StepActs, IsHistory, Rests, AtFirst, AtSecond, IsToldInTime}
use Rattle.link_sound.proofs.Played.{Move, First, Second, PutsOne, TakesTurn, Hears, played, is_history}
use Rattle.link_sound.proofs.CreditSteps.{all_linked, new_linked}
use Rattle.link_sound.proofs.CreditHistory.{told_stays}

-- the second port tells of 4 free buffers
abbrev telling : Link
telling = link_turned_round (after_telling (link_turned_round (new_link false true 4 4)))

abbrev told : Event
told = Ctl (status 0 4)

-- the first hears it
abbrev pub hearing : Link
hearing = after_event telling told []

pub hearing_history : IsHistory (new_link false true 4 4) hearing
hearing_history =
    AtSecond (new_link false true 4 4) (StepTells (link_turned_round (new_link false true 4 4)))
    (AtFirst telling (StepActs telling told [] refl refl) (Rests hearing))

four : AreBuffers 4
four = (omega arith, omega arith)

new_told : HasTold (new_port false 4) (new_port true 4) []
new_told = record {
  tells = refl;
  freed = 0;
  held = 0;
  counted = record {
    oldest_is = refl;
    expected_is = refl;
    held_first = omega arith;
    sent_first = omega arith;
    words_are = tt;
    report_is = tt;
  };
}

pub hearing_in_time : IsToldInTime hearing
unfolding hearing_history
hearing_in_time = record {
  linked = all_linked false true 4 4 hearing four four hearing_history;
  told =
      told_stays (new_link false true 4 4) hearing hearing_history (tt, tt)
      (new_linked false true 4 4 four four) new_told;
  report = refl;
  none_outstanding = refl;
  none_comes = tt;
  takes = λ is. absurd cc;
}

-- of two packets of a port that was told of nothing the second finds no buffer
abbrev untold : List Move
untold =
    First PutsOne ∷ First PutsOne ∷ First TakesTurn ∷ First TakesTurn ∷ Second Hears
    ∷ Second Hears ∷ Second Hears ∷ Second Hears ∷ Second Hears ∷ Second Hears ∷ []

abbrev pub refused : Link
refused = played untold (new_link false true 4 4)

pub refused_history : IsHistory (new_link false true 4 4) refused
refused_history = is_history untold (new_link false true 4 4)

pub is_refused : receiver_of refused.b.input ≡ ReceiverRetryStopped
unfolding highest_below window played
is_refused = refl
