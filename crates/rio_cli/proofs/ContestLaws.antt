-- The two hosts of an input: names that are refused are refused once, and then there are no two.
use Rattle.std.proofs.Common.{◌≡◌, inl, inr, ◌⊎◌, ℕ, ◌+◌, List, length, Option, Result, Ok, Err, refl, sym, ap, ◌∙◌, subst}
use Rattle.std.specs.Io.KnownBytes.{Keeps}
use Rattle.fabric_script.specs.declared.lines.Numbered.{Numbered}
use Rattle.fabric_script.specs.Known.{of_set_up}
use Rattle.fabric_script.specs.Reasons.{reason_number}
use Rattle.fabric_script.specs.Scripts.{IsScriptIn}
use Rattle.fabric_script.proofs.ScriptLaws.{not_refused, refused_once, script_once}
use Rattle.host_enumerate.specs.Devised.{devices_of, links_of}
use Rattle.host_enumerate.specs.Hosts.{reason_of}
use Rattle.host_enumerate.specs.declared.devising.NoHost.{NoHost}
use Rattle.host_enumerate.proofs.HostLaws.{found_once}
use Rattle.script_input.specs.Inputs.{texts_of}
use Rattle.rio_cli.specs.declared.command.Command.TheVariants.{Contest}
use Rattle.rio_cli.specs.declared.status.Status.{Status}
use Rattle.rio_cli.specs.declared.status.Status.TheVariants.{Done, NoMemory}
use Rattle.rio_cli.specs.Answers.{Answers, SaysOfBytes, IsOther}
use Rattle.rio_cli.specs.Contesting.{FindsIn, FindsHosts, HasHosts, IsRefusedForTwo, HitForTwo, NotHosts, contested}

-- ---- the nodes of two names, in one script

module _ (names : List (List ℕ)) (lines : List Numbered) where
  once : (word : List ℕ) (a b : Result ℕ NoHost) → FindsIn names lines word a
      → FindsIn names lines word b → a ≡ b
  once word a b h k = found_once names (devices_of lines) (links_of lines) word a b h k

  -- a name does not name a host and none
  clash : (word : List ℕ) (host : ℕ) (end : NoHost) → FindsIn names lines word (Ok host)
      → FindsIn names lines word (Err end) → ⊥
  clash word host end h k = let same = once word (Ok host) (Err end) h k in cc

  same_host_of : (word : List ℕ) (one other : ℕ) → FindsIn names lines word (Ok one)
      → FindsIn names lines word (Ok other) → one ≡ other
  same_host_of word one other h k = let same = once word (Ok one) (Ok other) h k in cc

  same_end : (word : List ℕ) (a b : NoHost) (reason reason2 : ℕ) → FindsIn names lines word (Err a)
      → FindsIn names lines word (Err b) → reason ≡ reason_number (reason_of a)
      → reason2 ≡ reason_number (reason_of b) → reason ≡ reason2
  same_end word a b reason reason2 h k is is2 =
      let same = once word (Err a) (Err b) h k in
      let ends : a ≡ b = cc in
      is ∙ ap (λ end. reason_number (reason_of end)) ends ∙ sym is2

  pub hosts_or_none : (first second : List ℕ) (hosts : ℕ × ℕ) (reason : ℕ)
      → FindsHosts names lines first second (Ok hosts)
      → FindsHosts names lines first second (Err reason) → ⊥
  hosts_or_none first second hosts reason h (inl none) = clash first hosts.0 none.0 h.0 none.1
  hosts_or_none first second hosts reason h (inr (one, found, inl none)) =
      clash second hosts.1 none.0 h.1 none.1
  hosts_or_none first second hosts reason h (inr (one, found, inr same)) =
      h.2 (same_host_of first hosts.0 one h.0 found
      ∙ sym (same_host_of second hosts.1 one h.1 same.0))

  pub one_reason : (first second : List ℕ) (reason reason2 : ℕ)
      → FindsHosts names lines first second (Err reason)
      → FindsHosts names lines first second (Err reason2) → reason ≡ reason2
  one_reason first second r r2 (inl h) (inl k) = same_end first h.0 k.0 r r2 h.1 k.1 h.2 k.2
  one_reason first second r r2 (inl h) (inr k) = absurd (clash first k.0 h.0 k.1 h.1)
  one_reason first second r r2 (inr h) (inl k) = absurd (clash first h.0 k.0 h.1 k.1)
  one_reason first second r r2 (inr (one, found, inl h)) (inr (other, found2, inl k)) =
      same_end second h.0 k.0 r r2 h.1 k.1 h.2 k.2
  one_reason first second r r2 (inr (one, found, inl h)) (inr (other, found2, inr k)) =
      absurd (clash second other h.0 k.0 h.1)
  one_reason first second r r2 (inr (one, found, inr h)) (inr (other, found2, inl k)) =
      absurd (clash second one k.0 h.0 k.1)
  one_reason first second r r2 (inr (one, found, inr h)) (inr (other, found2, inr k)) =
      h.1 ∙ sym k.1

-- the names that were read are those of the words
pub finds_as : (names : List (List ℕ)) (lines : List Numbered) (read read2 first second : List ℕ)
    (found is : Result (ℕ × ℕ) ℕ) → read ≡ first → read2 ≡ second → found ≡ is
    → FindsHosts names lines read read2 found → FindsHosts names lines first second is
finds_as names lines read read2 first second found is same same2 so finds =
    subst (λ word. FindsHosts names lines word second is) same
    (subst (λ word. FindsHosts names lines read word is) same2
    (subst (FindsHosts names lines read read2) so finds))

-- ---- of the bytes

module _ (first second bytes : List ℕ) where
  -- bytes spell one script
  moved : (names names2 : List (List ℕ)) (lines lines2 : List Numbered)
      (found : Result (ℕ × ℕ) ℕ) → IsScriptIn of_set_up bytes names lines
      → IsScriptIn of_set_up bytes names2 lines2 → FindsHosts names lines first second found
      → FindsHosts names2 lines2 first second found
  moved names names2 lines lines2 found spells spells2 finds =
      let same = script_once of_set_up bytes names names2 lines lines2 spells spells2 in
      subst (λ ns. FindsHosts ns lines2 first second found) same.0
      (subst (λ ls. FindsHosts names ls first second found) same.1 finds)

  pub hosts_not_refused : (line reason : ℕ) → HasHosts first second bytes
      → IsRefusedForTwo first second bytes line reason → ⊥
  hosts_not_refused line reason is (HitForTwo refused) =
      not_refused of_set_up bytes is.names is.lines line reason is.spells refused
  hosts_not_refused line reason is (NotHosts names lines why spells none) =
      hosts_or_none is.names is.lines first second is.hosts why is.found
      (moved names is.names lines is.lines (Err why) spells is.spells none)

  pub hosts_refused_once : (line reason line2 reason2 : ℕ)
      → IsRefusedForTwo first second bytes line reason
      → IsRefusedForTwo first second bytes line2 reason2 → (line ≡ line2) × (reason ≡ reason2)
  hosts_refused_once line reason line2 reason2 (HitForTwo a) (HitForTwo b) =
      refused_once of_set_up bytes line reason line2 reason2 a b
  hosts_refused_once line reason line2 reason2 (HitForTwo a) (NotHosts names lines why spells none)
      =
      absurd (not_refused of_set_up bytes names lines line reason spells a)
  hosts_refused_once line reason line2 reason2 (NotHosts names lines why spells none) (HitForTwo b)
      =
      absurd (not_refused of_set_up bytes names lines line2 reason2 spells b)
  hosts_refused_once line reason line2 reason2 (NotHosts names lines why spells none)
      (NotHosts names2 lines2 why2 spells2 none2) = (
        refl,
        one_reason names2 lines2 first second why why2
            (moved names names2 lines lines2 (Err why) spells spells2 none) none2,
      )

  -- the names do not name two hosts, so the line after the last is refused
  pub no_hosts : (names : List (List ℕ)) (lines : List Numbered) (reason : ℕ)
      → IsScriptIn of_set_up bytes names lines → FindsHosts names lines first second (Err reason)
      → (count : ℕ) → count ≡ length (texts_of bytes)
      → IsRefusedForTwo first second bytes (count + 1) reason
  no_hosts names lines reason spells none count counted =
      subst (λ (n : ℕ). IsRefusedForTwo first second bytes (n + 1) reason) (sym counted)
      (NotHosts names lines reason spells none)

  -- ---- what is said of two hosts is said of the bytes that have them

  module _ (seed : ℕ) (is : HasHosts first second bytes) (status : Status) (w : Option (List ℕ))
      (f : ℕ) (w' : Option (List ℕ)) (f2 : ℕ) where
    abbrev pub Told : Type 0
    Told = Answers status Done (contested is seed) w f w' f2
        ⊎ ((status ≡ NoMemory) × Keeps w w')

    pub says_contest : Told → SaysOfBytes (Contest first second seed) status bytes w f w' f2
    says_contest (inl (inl whole)) =
        subst (λ s. SaysOfBytes (Contest first second seed) s bytes w f w' f2) (sym whole.0)
        (record { is = is; told = whole.1 })
    says_contest (inl (inr failed)) =
        subst (λ s. SaysOfBytes (Contest first second seed) s bytes w f w' f2) (sym failed.0)
        (failed.1, inl (record { is = is; told = failed.2 }))
    says_contest (inr none) =
        subst (λ s. SaysOfBytes (Contest first second seed) s bytes w f w' f2) (sym none.0)
        (inl none.1)

    pub contest_is_other : Told → IsOther status
    contest_is_other (inl (inl whole)) =
        subst IsOther (sym whole.0) ((λ e. cc), (λ e. cc))
    contest_is_other (inl (inr failed)) =
        subst IsOther (sym failed.0) ((λ e. cc), (λ e. cc))
    contest_is_other (inr none) = subst IsOther (sym none.0) ((λ e. cc), (λ e. cc))
