-- What was told behind the asks of a host, by the answer of its write.
use Rattle.std.proofs.Common.{◌≡◌, inl, inr, ℕ, Bool, true, false, List, [], ◌++◌, Option, codes, refl, sym, ap, ◌∙◌, subst, append_assoc, append-nil}
use Rattle.std.specs.Borrow.{GName}
use Rattle.std.specs.Io.KnownBytes.{Appends}
use Rattle.std.proofs.KnownBytes.{Appends-trans}
use Rattle.rio_chars.specs.Fronts.{AppendsFront}
use Rattle.rio_chars.specs.Written.{Outgoing, Writes}
use Rattle.rio_chars.proofs.WrittenLaws.{Writes-whole, Writes-front, Writes-rose}
use Rattle.fabric_script.specs.declared.lines.Numbered.{Numbered}
use Rattle.fabric_map.specs.Routes.{AllRegisters}
use Rattle.fabric_map.specs.declared.map.Device.{Device}
use Rattle.fabric_map.specs.declared.map.Entry.{Entry}
use Rattle.trace_lines.specs.Text.{trace_text}
use Rattle.host_enumerate.specs.Ends.{EndsAtLock}
use Rattle.host_enumerate.specs.MapTexts.{map_text, locked_text}
use Rattle.rio_cli.specs.declared.command.Command.TheVariants.{Enumerate}
use Rattle.rio_cli.specs.declared.status.Status.{Status}
use Rattle.rio_cli.specs.declared.status.Status.TheVariants.{Done, Words, Script, ReadFault, WriteFault, NoMemory, Undetected, TooLong, Locked, Unlawful}
use Rattle.rio_cli.specs.Answers.{Answers, SaysOfBytes, IsOther}
use Rattle.rio_cli.specs.Numbering.{HasHost, topology_for, registers_for, ToldAsks, IsMapOf, NumbersTo, LocksTo, SaysOfHost}

-- what a new outbox was told was written, or a front of it if a write failed
pub answered_by : {sink : GName} {w w' : Option (List ℕ)} {f f' : ℕ} {begun : Outgoing}
    (out : Outgoing) (answer status : Status) (text : List ℕ)
    → begun ≡ record { sink = sink; written = w; faults = f; waiting = []; failed = false }
    → Writes begun out (text ++ []) → out.waiting ≡ []
    → (out.failed ≡ false → answer ≡ status) → (out.failed ≡ true → answer ≡ WriteFault)
    → w' ≡ out.written → f' ≡ out.faults → Answers answer status text w f w' f'
answered_by {sink} {w} {w'} {f} {f'} out answer status text new told none fine broke ends counts =
    go out.failed refl
  where
    start : Outgoing
    start = record { sink = sink; written = w; faults = f; waiting = []; failed = false }

    all : Writes start out text
    all = subst (Writes start out) (append-nil text)
        (subst (λ b. Writes b out (text ++ [])) new told)

    go : (failed : Bool) → out.failed ≡ failed → Answers answer status text w f w' f'
    go false is = inl (fine is, rw ends (Writes-whole start out text refl all is none))
    go true is = inr (
      broke is,
      rw counts (Writes-rose start out text refl all is),
      rw ends (Writes-front start out text refl all),
    )

-- a front of what was told behind other bytes is a front of both
front_behind : (w m w' : Option (List ℕ)) (before text : List ℕ) → Appends w m before
    → AppendsFront m w' text → AppendsFront w w' (before ++ text)
front_behind w m w' before text told front = record {
  front = before ++ front.front;
  rest = front.rest;
  whole = ap (λ bytes. before ++ bytes) front.whole
      ∙ sym (append_assoc before front.front front.rest);
  told = Appends-trans w m w' before front.front told front.told;
}

module _ (names : List (List ℕ)) (lines : List Numbered) (host : ℕ) (status : Status)
    (w m : Option (List ℕ)) (f : ℕ) (w' : Option (List ℕ)) (f2 : ℕ) (after : AllRegisters)
    (asks : ToldAsks names lines host w m after) where
  -- the map was told, or a front of it
  pub says_map : (devices : List Device) (entries : List Entry)
      → IsMapOf lines host devices entries after
      → Answers status Done (map_text devices entries ++ codes "end\n") m f w' f2
      → SaysOfHost names lines host status w f w' f2
  says_map devices entries map answers = go answers
    where
      told : List ℕ
      told = trace_text names asks.trace ++ (map_text devices entries ++ codes "end\n")

      to : NumbersTo names lines host told
      to = record {
        trace = asks.trace;
        after = after;
        asked = asks.asked;
        devices = devices;
        entries = entries;
        map = map;
        text_is = refl;
      }

      go : Answers status Done (map_text devices entries ++ codes "end\n") m f w' f2
          → SaysOfHost names lines host status w f w' f2
      go (inl whole) = subst (λ s. SaysOfHost names lines host s w f w' f2) (sym whole.0) (
        told,
        to,
        Appends-trans w m w' (trace_text names asks.trace)
            (map_text devices entries ++ codes "end\n") asks.told whole.1,
      )
      go (inr failed) = subst (λ s. SaysOfHost names lines host s w f w' f2) (sym failed.0) (
        failed.1,
        inr (
          told,
          inl to,
          front_behind w m w' (trace_text names asks.trace)
              (map_text devices entries ++ codes "end\n") asks.told failed.2,
        ),
      )

  -- the line of a lock was told, or a front of it
  pub says_lock : (path : List ℕ) (id : ℕ)
      → EndsAtLock (topology_for lines host) (registers_for lines) after path id
      → Answers status Locked (locked_text path id) m f w' f2
      → SaysOfHost names lines host status w f w' f2
  says_lock path id locked answers = go answers
    where
      told : List ℕ
      told = trace_text names asks.trace ++ locked_text path id

      to : LocksTo names lines host told
      to = record {
        trace = asks.trace;
        after = after;
        asked = asks.asked;
        path = path;
        id = id;
        locked = locked;
        text_is = refl;
      }

      go : Answers status Locked (locked_text path id) m f w' f2
          → SaysOfHost names lines host status w f w' f2
      go (inl whole) = subst (λ s. SaysOfHost names lines host s w f w' f2) (sym whole.0) (
        told,
        to,
        Appends-trans w m w' (trace_text names asks.trace) (locked_text path id) asks.told
            whole.1,
      )
      go (inr failed) = subst (λ s. SaysOfHost names lines host s w f w' f2) (sym failed.0) (
        failed.1,
        inr (
          told,
          inr to,
          front_behind w m w' (trace_text names asks.trace) (locked_text path id)
              asks.told failed.2,
        ),
      )

-- ---- of the bytes

module _ (word bytes : List ℕ) (is : HasHost word bytes) (w : Option (List ℕ)) (f : ℕ)
    (w' : Option (List ℕ)) (f2 : ℕ) where
  -- what is said of the host is said of the bytes that have it
  pub says_of_bytes : (status : Status)
      → SaysOfHost is.names is.lines is.host status w f w' f2
      → SaysOfBytes (Enumerate word) status bytes w f w' f2
  says_of_bytes Done h = record { is = is; text = h.0; to = h.1; told = h.2 }
  says_of_bytes Locked h = record { is = is; text = h.0; to = h.1; told = h.2 }
  says_of_bytes WriteFault h = (h.0, inl (record { is = is; front = h.1 }))
  says_of_bytes NoMemory (inl none) = inl none
  says_of_bytes NoMemory (inr front) = inr (record { is = is; front = front })
  says_of_bytes Undetected h = absurd h
  says_of_bytes Words h = absurd h
  says_of_bytes Script h = absurd h
  says_of_bytes ReadFault h = absurd h
  says_of_bytes TooLong h = absurd h
  says_of_bytes Unlawful h = absurd h

  pub host_is_other : (status : Status) → SaysOfHost is.names is.lines is.host status w f w' f2
      → IsOther status
  host_is_other Done h = ((λ e. cc), (λ e. cc))
  host_is_other Locked h = ((λ e. cc), (λ e. cc))
  host_is_other WriteFault h = ((λ e. cc), (λ e. cc))
  host_is_other NoMemory h = ((λ e. cc), (λ e. cc))
  host_is_other Undetected h = absurd h
  host_is_other Words h = absurd h
  host_is_other Script h = absurd h
  host_is_other ReadFault h = absurd h
  host_is_other TooLong h = absurd h
  host_is_other Unlawful h = absurd h
