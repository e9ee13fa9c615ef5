-- Bytes spell a script, or are refused.
use Rattle.std.proofs.Common.{◌≡◌, ℕ, suc, ◌+◌, true, false, List, [], ◌∷◌, ◌++◌, length, refl, ap, ◌⊎◌, inl, inr}
use Rattle.std.proofs.lemmas.Bool.{cases_Bool}
use Rattle.fabric_script.specs.declared.reasons.Reason.{Reason}
use Rattle.fabric_script.specs.declared.lines.Line.{Line}
use Rattle.fabric_script.specs.declared.lines.Numbered.{Numbered}
use Rattle.fabric_script.specs.Known.{Known, IsOrderly, nothing_in, known_after}
use Rattle.fabric_script.specs.Reasons.{reason_number}
use Rattle.fabric_script.specs.Reading.{new_name_in, Spells, LeastHit}
use Rattle.fabric_script.specs.Scripts.{pieces_of, is_skipped, SpellsFrom, IsScriptIn, RefusedIn}
use Rattle.fabric_script.specs.SetUps.{KnownIsReady, IsRefused}
use Rattle.fabric_script.proofs.KnownLaws.{nothing-orderly}
use Rattle.fabric_script.proofs.ScriptLaws.{orderly-spelled}
use Rattle.script_law.proofs.LineChoice.{spelled_or_hit}

-- the pieces spell lines up to one that a reason hits
record Stops (number : ℕ) (known : Known) (texts : List (List ℕ)) : Type 0 where
  before : List (List ℕ)
  text : List ℕ
  behind : List (List ℕ)
  lines : List Numbered
  end : Known
  reason : Reason
  split : texts ≡ before ++ text ∷ behind
  spelled : SpellsFrom number known before lines end
  kept : is_skipped text ≡ false
  least : LeastHit end text reason

-- the pieces spell lines to their end
record Reaches (number : ℕ) (known : Known) (texts : List (List ℕ)) : Type 0 where
  lines : List Numbered
  end : Known
  spelled : SpellsFrom number known texts lines end

abbrev Goes : ℕ → Known → List (List ℕ) → Type 0
Goes number known texts = Reaches number known texts ⊎ Stops number known texts

skip : (number : ℕ) (known : Known) (text : List ℕ) (texts : List (List ℕ))
    → is_skipped text ≡ true → Goes (suc number) known texts → Goes number known (text ∷ texts)
skip number known text texts skipped (inl rest) = inl record {
  lines = rest.lines;
  end = rest.end;
  spelled = rw skipped rest.spelled;
}
skip number known text texts skipped (inr rest) = inr record {
  before = text ∷ rest.before;
  text = rest.text;
  behind = rest.behind;
  lines = rest.lines;
  end = rest.end;
  reason = rest.reason;
  split = ap (λ ts. text ∷ ts) rest.split;
  spelled = rw skipped rest.spelled;
  kept = rest.kept;
  least = rest.least;
}

keep : (number : ℕ) (known : Known) (text : List ℕ) (texts : List (List ℕ)) (line : Line)
    → is_skipped text ≡ false → Spells known text line
    → Goes (suc number) (known_after known (new_name_in text line) line) texts
    → Goes number known (text ∷ texts)
keep number known text texts line kept spells (inl rest) = inl record {
  lines = record { number = number; line = line } ∷ rest.lines;
  end = rest.end;
  spelled = rw kept (line, rest.lines, refl, spells, rest.spelled);
}
keep number known text texts line kept spells (inr rest) = inr record {
  before = text ∷ rest.before;
  text = rest.text;
  behind = rest.behind;
  lines = record { number = number; line = line } ∷ rest.lines;
  end = rest.end;
  reason = rest.reason;
  split = ap (λ ts. text ∷ ts) rest.split;
  spelled = rw kept (line, rest.lines, refl, spells, rest.spelled);
  kept = rest.kept;
  least = rest.least;
}

stop : (number : ℕ) (known : Known) (text : List ℕ) (texts : List (List ℕ)) (reason : Reason)
    → is_skipped text ≡ false → LeastHit known text reason → Goes number known (text ∷ texts)
stop number known text texts reason kept least = inr record {
  before = [];
  text = text;
  behind = texts;
  lines = [];
  end = known;
  reason = reason;
  split = refl;
  spelled = (refl, refl);
  kept = kept;
  least = least;
}

goes : (number : ℕ) (known : Known) (texts : List (List ℕ)) → IsOrderly known
    → Goes number known texts
goes number known [] orderly = inl record { lines = []; end = known; spelled = (refl, refl) }
goes number known (text ∷ texts) orderly = elim (cases_Bool (is_skipped text)) [
  | inl skipped ↦ skip number known text texts skipped (goes (suc number) known texts orderly)
  | inr kept ↦ elim (spelled_or_hit known text orderly) [
    | inl is ↦ keep number known text texts is.0 kept is.1
        (goes (suc number) (known_after known (new_name_in text is.0) is.0) texts
        (orderly-spelled known text is.0 orderly is.1))
    | inr hit ↦ stop number known text texts hit.0 kept hit.1
  ]
]

pub script_or_refused : (mode : _) (bytes : List ℕ)
    → ((names : List (List ℕ)) × (lines : List Numbered) × IsScriptIn mode bytes names lines)
    ⊎ ((line : ℕ) × (reason : ℕ) × RefusedIn mode bytes line reason)
script_or_refused mode bytes =
    elim (goes 1 (nothing_in mode) (pieces_of bytes) (nothing-orderly mode)) [
      | inl whole ↦ inl (whole.end.names, whole.lines, (whole.end, refl, whole.spelled))
      | inr front ↦ inr (
        length front.before + 1,
        reason_number front.reason,
        record {
          before = front.before;
          text = front.text;
          behind = front.behind;
          lines = front.lines;
          known = front.end;
          reason = front.reason;
          split = front.split;
          spelled = front.spelled;
          kept = front.kept;
          place = refl;
          named = refl;
          least = front.least;
        },
      )
    ]

pub event_or_refused : (known : Known) (text : List ℕ) → KnownIsReady known
    → ((line : Line) × Spells known text line) ⊎ ((number : ℕ) × IsRefused known text number)
event_or_refused known text ready = elim (spelled_or_hit known text ready.orderly) [
  | inl is ↦ inl is
  | inr hit ↦ inr (reason_number hit.0, record { reason = hit.0; named = refl; least = hit.1 })
]
