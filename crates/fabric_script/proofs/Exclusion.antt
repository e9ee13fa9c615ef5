-- A word that may be said is hit by no reason, and any other by one.
use Rattle.std.proofs.Common.{◌≡◌, ℕ, ◌<◌, true, List, [], Contains, length, refl, sym, ap, ◌∙◌, subst, arith}
use Rattle.std.proofs.lemmas.List.{get_or_default}
use Rattle.fabric_script.specs.declared.ports.PortRef.{PortRef}
use Rattle.fabric_script.specs.declared.reasons.Reason.{Reason}
use Rattle.fabric_script.specs.Names.{is_name, name_of}
use Rattle.fabric_script.specs.Forms.{Field, NewName, Node, Port, Number, Hex, Digits, Character}
use Rattle.fabric_script.specs.Texts.{Value, Named, NodeValue, PortValue, Counted, Bytes, InDigits, Code, value_text, port_text, digits_text}
use Rattle.fabric_script.specs.Known.{Known, IsOrderly, ports_of}
use Rattle.fabric_script.specs.Hits.{FitsField, Hits, NumberIsBad, NewNameIsBad, NodeIsBad, PortIsBad, NameIsTaken, NodeIsUnknown, PortIsUnknown, PortIsOutside, HexIsBad, DigitsAreBad, CharacterIsBad, point_text}
use Rattle.fabric_script.proofs.Points.{same_port_text}

-- the name of a node is among the names
pub named_is_there : (names : List (List ℕ)) (n : ℕ) (word : List ℕ) → n < length names
    → name_of names n ≡ word → Contains names word
named_is_there names n word within e = (n, within, get_or_default names n word [] within ∙ e)

pub there_is_named : (names : List (List ℕ)) (word : List ℕ) → Contains names word → (n : ℕ)
    × (n < length names) × (name_of names n ≡ word)
there_is_named names word there =
    (there.0, there.1, get_or_default names there.0 [] word there.1 ∙ there.2)

named_known : (known : Known) (word : List ℕ) → IsOrderly known → Contains known.names word
    → is_name word ≡ true
named_known known word orderly there =
    let at = there_is_named known.names word there in
    ap is_name (sym at.2) ∙ orderly.named at.0 at.1

-- one port at most is spelled by a word
same_place : (known : Known) (word : List ℕ) (p q : PortRef) → IsOrderly known → p.node
    < length known.names → p.port < 16 → q.node < length known.names → q.port < 16 → word
    ≡ port_text known.names p → word ≡ port_text known.names q → (p.node ≡ q.node)
    × (p.port ≡ q.port)
same_place known word p q orderly node port node' port' e e' =
    let same = same_port_text (name_of known.names p.node) (name_of known.names q.node) p.port
    q.port (orderly.named p.node node) (orderly.named q.node node') port port' (sym e ∙ e')
    in
    (orderly.apart p.node q.node node node' same.0, same.1)

unknown_is_known : (known : Known) (word name : List ℕ) (port : ℕ) (p : PortRef) → IsOrderly known
    → is_name name ≡ true → port < 16 → word ≡ point_text name port → ¬ Contains known.names name
    → p.node < length known.names → p.port < 16 → word ≡ port_text known.names p → ⊥
unknown_is_known known word name port p orderly named below e none node port' e' =
    let same = same_port_text name (name_of known.names p.node) port p.port named
    (orderly.named p.node node) below port' (sym e ∙ e') in
    none (named_is_there known.names p.node name node (sym same.0))

pub same_reason : (known : Known) (field : Field) (word : List ℕ) (r q : Reason) → IsOrderly known
    → Hits known r field word → Hits known q field word → r ≡ q
same_reason known (Number least most) word r q orderly (NumberIsBad a) (NumberIsBad b) = refl
same_reason known NewName word r q orderly (NewNameIsBad a) (NewNameIsBad b) = refl
same_reason known NewName word r q orderly (NewNameIsBad a) (NameIsTaken b there) = cc
same_reason known NewName word r q orderly (NameIsTaken a there) (NewNameIsBad b) = cc
same_reason known NewName word r q orderly (NameIsTaken a there) (NameIsTaken b there') = refl
same_reason known Node word r q orderly (NodeIsBad a) (NodeIsBad b) = refl
same_reason known Node word r q orderly (NodeIsBad a) (NodeIsUnknown b none) = cc
same_reason known Node word r q orderly (NodeIsUnknown a none) (NodeIsBad b) = cc
same_reason known Node word r q orderly (NodeIsUnknown a none) (NodeIsUnknown b none') = refl
same_reason known Port word r q orderly (PortIsBad a) (PortIsBad b) = refl
same_reason known Port word r q orderly (PortIsBad a) (PortIsUnknown name port named below e none) =
    absurd (a name port named below e)
same_reason known Port word r q orderly (PortIsBad a) (PortIsOutside p node port e outside) =
    absurd (a (name_of known.names p.node) p.port (orderly.named p.node node) port e)
same_reason known Port word r q orderly (PortIsUnknown name port named below e none) (PortIsBad b) =
    absurd (b name port named below e)
same_reason known Port word r q orderly (PortIsUnknown name port named below e none)
    (PortIsUnknown name' port' named' below' e' none') = refl
same_reason known Port word r q orderly (PortIsUnknown name port named below e none)
    (PortIsOutside p node port' e' outside) =
    absurd (unknown_is_known known word name port p orderly named below e none node port' e')
same_reason known Port word r q orderly (PortIsOutside p node port e outside) (PortIsBad b) =
    absurd (b (name_of known.names p.node) p.port (orderly.named p.node node) port e)
same_reason known Port word r q orderly (PortIsOutside p node port' e' outside)
    (PortIsUnknown name port named below e none) =
    absurd (unknown_is_known known word name port p orderly named below e none node port' e')
same_reason known Port word r q orderly (PortIsOutside p node port e outside)
    (PortIsOutside p' node' port' e' outside') = refl
same_reason known Hex word r q orderly (HexIsBad a) (HexIsBad b) = refl
same_reason known (Digits count) word r q orderly (DigitsAreBad a) (DigitsAreBad b) = refl
same_reason known Character word r q orderly (CharacterIsBad a) (CharacterIsBad b) = refl

pub no_hit : (known : Known) (field : Field) (value : Value) (word : List ℕ) (r : Reason)
    → IsOrderly known → FitsField known field value → word ≡ value_text known.names value
    → Hits known r field word → ⊥
no_hit known (Number least most) (Counted n) word r orderly fits e (NumberIsBad none) =
    none n fits.0 fits.1 e
no_hit known NewName (Named name) word r orderly fits e (NewNameIsBad other) =
    let named = ap is_name e ∙ fits.0
    in
    cc
no_hit known NewName (Named name) word r orderly fits e (NameIsTaken named there) =
    fits.1 (subst (Contains known.names) e there)
no_hit known Node (NodeValue n) word r orderly fits e (NodeIsBad other) =
    let named = ap is_name e ∙ orderly.named n fits
    in
    cc
no_hit known Node (NodeValue n) word r orderly fits e (NodeIsUnknown named none) =
    none (named_is_there known.names n word fits (sym e))
no_hit known Port (PortValue p) word r orderly fits e (PortIsBad none) =
    none (name_of known.names p.node) p.port (orderly.named p.node fits.0) fits.1 e
no_hit known Port (PortValue p) word r orderly fits e (PortIsUnknown name port named below e' none)
    =
    unknown_is_known known word name port p orderly named below e' none fits.0 fits.1 e
no_hit known Port (PortValue p) word r orderly fits e (PortIsOutside q node port e' outside) =
    let same = same_place known word p q orderly fits.0 fits.1 node port e e' in
    let within : q.port < ports_of known.nodes q.node = subst (λ n. q.port < ports_of known.nodes n)
    same.0 (subst (λ m. m < ports_of known.nodes p.node) same.1 fits.2) in
    omega arith
no_hit known Hex (Bytes bytes) word r orderly fits e (HexIsBad none) = none bytes fits e
no_hit known (Digits count) (InDigits shown n) word r orderly fits e (DigitsAreBad none) =
    none n fits.1 (e ∙ ap (λ k. digits_text k n) fits.0)
no_hit known Character (Code c) word r orderly fits e (CharacterIsBad none) = none c fits e
no_hit known NewName _ word r orderly fits e _ = absurd fits
no_hit known Node _ word r orderly fits e _ = absurd fits
no_hit known Port _ word r orderly fits e _ = absurd fits
no_hit known (Number least most) _ word r orderly fits e _ = absurd fits
no_hit known Hex _ word r orderly fits e _ = absurd fits
no_hit known (Digits count) _ word r orderly fits e _ = absurd fits
no_hit known Character _ word r orderly fits e _ = absurd fits
