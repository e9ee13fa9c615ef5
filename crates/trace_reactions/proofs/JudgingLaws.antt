-- What is kept of all ports, when one is put in or changed.
use Rattle.std.proofs.Common.{◌≡◌, ℕ, ◌+◌, ◌<◌, get_or, length, take, Bool, true, false, cond, List, [], ◌∷◌, ◌++◌, Option, Some, None, refl, sym, ap, ◌∙◌, subst, if◌then◌else◌}
use Rattle.std.specs.HashMap.{get, Updates}
use Rattle.std.proofs.lemmas.List.{take_more}
use Rattle.fabric_script.specs.declared.lines.Line.{Line}
use Rattle.fabric_script.specs.declared.lines.Line.TheVariants.{Buffers}
use Rattle.fabric_script.specs.declared.lines.Numbered.{Numbered}
use Rattle.fabric_script.specs.declared.ports.PortRef.{PortRef}
use Rattle.fabric_model.specs.Network.{same_port}
use Rattle.fabric_model.proofs.Peers.{port_is}
use Rattle.trace_reactions.specs.declared.all_ports.Reactions.{Reactions}
use Rattle.trace_reactions.specs.declared.port.PortReactions.{PortReactions}
use Rattle.trace_reactions.specs.Judging.{buffers_after, buffers_by, KeepsPort, KeepsPorts, KeepsReactions, port_key, reactions_before, reactions_with, same_key, with_port_kept}
use Rattle.trace_reactions.specs.PortsKept.{unheard_port, port_kept, PortKept}

-- one port is put in, or changed
pub port_put : {ports more : PortRef → PortKept} (old new : Reactions) (p : PortRef)
    (put : PortReactions) → Updates same_key old.ports new.ports (port_key p) (Some put)
    → ((q : PortRef) → same_port p q ≡ true → more q ≡ port_kept put)
    → ((q : PortRef) → same_port p q ≡ false → more q ≡ ports q)
    → KeepsPorts ports old → KeepsPorts more new
port_put {ports} {more} old new p put updates same other kept q =
    by_port (same_port p q) refl
  where
    by_port : (b : Bool) → same_port p q ≡ b
        → KeepsPort (more q) (get same_key new.ports (port_key q))
    by_port true is = subst (KeepsPort (more q))
        (sym (updates.0 (port_key q)
        ∙ ap (λ b. cond b (Some put) (get same_key old.ports (port_key q))) is)) (same q is)
    by_port false is =
        let there : get same_key new.ports (port_key q) ≡ get same_key old.ports (port_key q)
        = updates.2 (port_key q) is in
        subst (KeepsPort (more q)) (sym there)
        (subst (λ port. KeepsPort port (get same_key old.ports (port_key q))) (sym (other q is))
        (kept q))

-- a port that is kept becomes another
pub port_changed : (ports : PortRef → PortKept) (old new : Reactions) (p : PortRef)
    (was now : PortReactions) (after : PortKept → PortKept)
    → Updates same_key old.ports new.ports (port_key p) (Some now)
    → get same_key old.ports (port_key p) ≡ Some was → port_kept now ≡ after (port_kept was)
    → KeepsPorts ports old → KeepsPorts (with_port_kept ports p after) new
port_changed ports old new p was now after updates there changes kept =
    port_put old new p now updates
    (λ q same. ap (λ b. if b then after (ports q) else ports q) same
    ∙ ap (λ r. after (ports r)) (sym (port_is p q same)) ∙ ap after own ∙ sym changes)
    (λ q other. ap (λ b. if b then after (ports q) else ports q) other) kept
  where
    own : ports p ≡ port_kept was
    own = subst (KeepsPort (ports p)) there (kept p)

-- a port of which nothing was kept is new
pub port_known : (ports : PortRef → PortKept) (old new : Reactions) (p : PortRef)
    (put : PortReactions) → Updates same_key old.ports new.ports (port_key p) (Some put)
    → get same_key old.ports (port_key p) ≡ None → port_kept put ≡ unheard_port 8
    → KeepsPorts ports old → KeepsPorts ports new
port_known ports old new p put updates none is kept =
    port_put old new p put updates
    (λ q same. ap ports (sym (port_is p q same)) ∙ own ∙ sym is)
    (λ q other. refl) kept
  where
    own : ports p ≡ unheard_port 8
    own = subst (KeepsPort (ports p)) none (kept p)

-- what is kept of a port
pub port_read : (ports : PortRef → PortKept) (reactions : Reactions) (p : PortRef)
    (there : Option PortReactions) → get same_key reactions.ports (port_key p) ≡ there
    → KeepsPorts ports reactions → KeepsPort (ports p) there
port_read ports reactions p there is kept = subst (KeepsPort (ports p)) is (kept p)

-- ---- set-up lines

-- a line that says nothing of buffers
pub buffers_other : (line : Line) → ((p : PortRef) (n : ℕ) → line ≡ Buffers p n → ⊥)
    → (n : ℕ) (p : PortRef) → buffers_by n p line ≡ n
buffers_other (Buffers q m) other n p = absurd (other q m refl)
buffers_other _ other n p = refl

buffers_more : (lines : List Numbered) (line : Numbered) (n : ℕ) (p : PortRef)
    → buffers_after n p (lines ++ line ∷ []) ≡ buffers_by (buffers_after n p lines) p line.line
buffers_more [] line n p = refl
buffers_more (first ∷ lines) line n p = buffers_more lines line (buffers_by n p first.line) p

before_more : (lines : List Numbered) (line : Numbered) → reactions_before (lines ++ line ∷ [])
    ≡ reactions_with (λ p. buffers_by (buffers_after 8 p lines) p line.line)
before_more lines line = λ i. record {
  ports = λ p. unheard_port (buffers_more lines line 8 p i);
  answered = 0;
}

-- one more line is taken in
pub set_next : (lines : List Numbered) (i : ℕ) (line : Numbered) (new : Reactions)
    → i < length lines → line ≡ get_or lines i line
    → KeepsReactions (reactions_with (λ p. buffers_by (buffers_after 8 p (take i lines)) p
    line.line)) new
    → KeepsReactions (reactions_before (take (i + 1) lines)) new
set_next lines i line new within at kept =
    subst (λ (l : List Numbered). KeepsReactions (reactions_before l) new)
    (sym (take_more lines i line within ∙ ap (λ x. take i lines ++ x ∷ []) (sym at)))
    (subst (λ r. KeepsReactions r new) (sym (before_more (take i lines) line)) kept)
