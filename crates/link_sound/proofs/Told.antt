-- Each step of a port keeps what is told between two ports true.
use Rattle.link_sound.proofs.Prelude.{◌≡◌, ℕ, Bool, true, false, Option, IfSome, All, List, [], ◌∷◌, ◌++◌, sym, subst, All-nil, All-head, All-tail, All-append, Report, hears_report, stype0, highest, reply_sent, TellsAs, IsTold}
use Rattle.link_port.specs.Prelude.{Event, Ctl, Pkt, Bad, PortState, IsPort, new_port, acts, is_acted, turns_to, turn_sends, tell_sends, timed_out, waiting_in}
use Rattle.link_sound.proofs.ToldLaws.{acts_told, turn_told, tell_told}
use Rattle.link_sound.proofs.ToldKept.{hears_keeps, report_keeps, turns_report, times_out_report}

pub new_told : (tells_a tells_b : Bool) (m n : ℕ)
    → IsTold (new_port tells_a m) (new_port tells_b n) []
new_told tells_a tells_b m n = record { coming = All-nil (TellsAs tells_b); keeps = tt }

kept_of : (tells : Bool) (before after : Option Report) → after ≡ before
    → IfSome before (λ report. tells ≡ true) → IfSome after (λ report. tells ≡ true)
kept_of tells before after same keeps =
    subst (λ (r : Option Report). IfSome r (λ report. tells ≡ true)) (sym same) keeps

pub turn_keeps : (a b : PortState) (kept_a kept_b : List Event) → IsPort a
    → IsTold b a kept_a → IsTold a b kept_b
    → IsTold b (turns_to a) (kept_a ++ (turn_sends a).sent) × IsTold (turns_to a) b kept_b
turn_keeps a b kept_a kept_b is ahead back = (
  record {
    coming = All-append (TellsAs a.tells) kept_a (turn_sends a).sent ahead.coming (turn_told a is);
    keeps = ahead.keeps;
  },
  record {
    coming = back.coming;
    keeps = kept_of b.tells _ _ (turns_report a.tells a.output (highest (waiting_in a))) back.keeps;
  },
)

pub tell_keeps : (a b : PortState) (kept_a : List Event) → IsPort a → IsTold b a kept_a
    → IsTold b a (kept_a ++ (tell_sends a).sent)
tell_keeps a b kept_a is ahead = record {
  coming = All-append (TellsAs a.tells) kept_a (tell_sends a).sent ahead.coming (tell_told a is);
  keeps = ahead.keeps;
}

-- what comes, acted on or not, leaves whether the port tells
answer_keeps : (a b : PortState) (kept_a : List Event) (e : Event) → IsPort a → IsTold b a kept_a
    → IsTold b (acts a e).port (kept_a ++ reply_sent (acts a e).reply)
answer_keeps a b kept_a (Ctl symbol) is ahead = record {
  coming =
      All-append (TellsAs a.tells) kept_a (reply_sent (acts a (Ctl symbol)).reply) ahead.coming
      (acts_told a (Ctl symbol) is);
  keeps = ahead.keeps;
}
answer_keeps a b kept_a (Pkt ack packet) is ahead = record {
  coming =
      All-append (TellsAs a.tells) kept_a (reply_sent (acts a (Pkt ack packet)).reply)
      ahead.coming (acts_told a (Pkt ack packet) is);
  keeps = ahead.keeps;
}
answer_keeps a b kept_a (Bad cause) is ahead = record {
  coming =
      All-append (TellsAs a.tells) kept_a (reply_sent (acts a (Bad cause)).reply) ahead.coming
      (acts_told a (Bad cause) is);
  keeps = ahead.keeps;
}

hearing_keeps : (a b : PortState) (kept_b : List Event) (e : Event) → IsTold a b (e ∷ kept_b)
    → IsTold (acts a e).port b kept_b
hearing_keeps a b kept_b (Ctl symbol) back = record {
  coming = All-tail (TellsAs b.tells) (Ctl symbol) kept_b back.coming;
  keeps =
      hears_keeps (λ report. b.tells ≡ true) (stype0 symbol.s0) (hears_report symbol a.output)
      symbol.p0
      (report_keeps b.tells symbol a.output
      (All-head (TellsAs b.tells) (Ctl symbol) kept_b back.coming) back.keeps);
}
hearing_keeps a b kept_b (Pkt ack packet) back = record {
  coming = All-tail (TellsAs b.tells) (Pkt ack packet) kept_b back.coming;
  keeps = back.keeps;
}
hearing_keeps a b kept_b (Bad cause) back = record {
  coming = All-tail (TellsAs b.tells) (Bad cause) kept_b back.coming;
  keeps = back.keeps;
}

pub acted_keeps : (a b : PortState) (kept_a kept_b : List Event) (e : Event) → IsPort a
    → is_acted a e ≡ true → IsTold b a kept_a → IsTold a b (e ∷ kept_b)
    → IsTold b (acts a e).port (kept_a ++ reply_sent (acts a e).reply)
    × IsTold (acts a e).port b kept_b
acted_keeps a b kept_a kept_b e is acted ahead back =
    (answer_keeps a b kept_a e is ahead, hearing_keeps a b kept_b e back)

missing_keeps : (a b : PortState) (kept_b : List Event) (e : Event) → is_acted a e ≡ false
    → IsTold a b kept_b → IsTold (acts a e).port b kept_b
missing_keeps a b kept_b (Ctl symbol) other back = absurd cc
missing_keeps a b kept_b (Pkt ack packet) other back =
    record { coming = back.coming; keeps = back.keeps }
missing_keeps a b kept_b (Bad cause) other back =
    record { coming = back.coming; keeps = back.keeps }

pub other_keeps : (a b : PortState) (kept_a kept_b : List Event) (e : Event) → IsPort a
    → is_acted a e ≡ false → IsTold b a kept_a → IsTold a b kept_b
    → IsTold b (acts a e).port (kept_a ++ reply_sent (acts a e).reply)
    × IsTold (acts a e).port b kept_b
other_keeps a b kept_a kept_b e is other ahead back =
    (answer_keeps a b kept_a e is ahead, missing_keeps a b kept_b e other back)

pub time_out_keeps : (a b : PortState) (kept_a kept_b : List Event)
    → IsTold b a kept_a → IsTold a b kept_b
    → IsTold b (timed_out a) [] × IsTold (timed_out a) b []
time_out_keeps a b kept_a kept_b ahead back = (
  record { coming = All-nil (TellsAs a.tells); keeps = ahead.keeps },
  record {
    coming = All-nil (TellsAs b.tells);
    keeps = kept_of b.tells _ _ (times_out_report a.output) back.keeps;
  },
)

pub rest_told : (P : Event → Type 0) (lost kept : List Event) → All P (lost ++ kept) → All P kept
rest_told P [] kept all = all
rest_told P (e ∷ lost) kept all = rest_told P lost kept (All-tail P e (lost ++ kept) all)

pub lost_keeps : (a b : PortState) (lost kept : List Event) → IsTold a b (lost ++ kept)
    → IsTold a b kept
lost_keeps a b lost kept told =
    record { coming = rest_told (TellsAs b.tells) lost kept told.coming; keeps = told.keeps }
