-- The host of an input: a name that is refused is refused once, and then there is no host.
use Rattle.std.proofs.Common.{◌≡◌, ℕ, ◌+◌, List, length, Result, Ok, Err, refl, sym, ap, subst}
use Rattle.fabric_script.specs.declared.lines.Numbered.{Numbered}
use Rattle.fabric_script.specs.Known.{of_set_up}
use Rattle.fabric_script.specs.Reasons.{reason_number}
use Rattle.fabric_script.specs.Scripts.{IsScriptIn}
use Rattle.fabric_script.proofs.ScriptLaws.{not_refused, refused_once, script_once}
use Rattle.host_enumerate.specs.Devised.{devices_of, links_of}
use Rattle.host_enumerate.specs.Hosts.{reason_of, FindsHost}
use Rattle.host_enumerate.specs.declared.devising.NoHost.{NoHost}
use Rattle.host_enumerate.proofs.HostLaws.{found_once}
use Rattle.script_input.specs.Inputs.{texts_of}
use Rattle.rio_cli.specs.Numbering.{HasHost, IsRefusedFor, HitFor, NotHostFor}

module _ (word bytes : List ℕ) where
  -- bytes spell one script, so a name is found in it or not
  found_in : (names names2 : List (List ℕ)) (lines lines2 : List Numbered)
      (one other : Result ℕ NoHost)
      → IsScriptIn of_set_up bytes names lines → IsScriptIn of_set_up bytes names2 lines2
      → FindsHost names (devices_of lines) (links_of lines) word one
      → FindsHost names2 (devices_of lines2) (links_of lines2) word other → one ≡ other
  found_in names names2 lines lines2 one other spells spells2 found found2 =
      let same = script_once of_set_up bytes names names2 lines lines2 spells spells2 in
      let here = subst (λ ns. FindsHost ns (devices_of lines2) (links_of lines2) word one) same.0
      (subst (λ ls. FindsHost names (devices_of ls) (links_of ls) word one) same.1 found) in
      found_once names2 (devices_of lines2) (links_of lines2) word one other here found2

  pub host_not_refused : (line reason : ℕ) → HasHost word bytes
      → IsRefusedFor word bytes line reason → ⊥
  host_not_refused line reason is (HitFor refused) =
      not_refused of_set_up bytes is.names is.lines line reason is.spells refused
  host_not_refused line reason is (NotHostFor names lines end spells found) =
      let clash = found_in is.names names is.lines lines (Ok is.host) (Err end) is.spells spells
      is.found found in cc

  reason_once : (a b : NoHost) → Path (Result ℕ NoHost) (Err a) (Err b)
      → reason_number (reason_of a) ≡ reason_number (reason_of b)
  reason_once a b same = let e : a ≡ b = cc in ap (λ end. reason_number (reason_of end)) e

  pub host_refused_once : (line reason line2 reason2 : ℕ) → IsRefusedFor word bytes line reason
      → IsRefusedFor word bytes line2 reason2 → (line ≡ line2) × (reason ≡ reason2)
  host_refused_once line reason line2 reason2 (HitFor a) (HitFor b) =
      refused_once of_set_up bytes line reason line2 reason2 a b
  host_refused_once line reason line2 reason2 (HitFor a) (NotHostFor names lines end spells found) =
      absurd (not_refused of_set_up bytes names lines line reason spells a)
  host_refused_once line reason line2 reason2 (NotHostFor names lines end spells found) (HitFor b) =
      absurd (not_refused of_set_up bytes names lines line2 reason2 spells b)
  host_refused_once line reason line2 reason2 (NotHostFor names lines a spells found)
      (NotHostFor names2 lines2 b spells2 found2) = (
        refl,
        reason_once a b (found_in names names2 lines lines2 (Err a) (Err b) spells spells2
            found found2),
      )

  -- the name was not found as a host, so the line after the last is refused
  pub no_host : (names : List (List ℕ)) (lines : List Numbered) (end : NoHost) (read : List ℕ)
      (found : Result ℕ NoHost) → IsScriptIn of_set_up bytes names lines → read ≡ word
      → found ≡ Err end → FindsHost names (devices_of lines) (links_of lines) read found
      → (count reason : ℕ) → count ≡ length (texts_of bytes)
      → reason ≡ reason_number (reason_of end) → IsRefusedFor word bytes (count + 1) reason
  no_host names lines end read found spells same is finds count reason counted named =
      subst (λ (n : ℕ). IsRefusedFor word bytes (n + 1) reason) (sym counted)
      (subst (IsRefusedFor word bytes (length (texts_of bytes) + 1)) (sym named)
      (NotHostFor names lines end spells
      (subst (λ w. FindsHost names (devices_of lines) (links_of lines) w (Err end)) same
      (subst (FindsHost names (devices_of lines) (links_of lines) read) is finds))))
