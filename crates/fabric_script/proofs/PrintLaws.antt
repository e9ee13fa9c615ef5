-- A script that passes is printed as a text that spells it.
use Rattle.std.proofs.Common.{◌≡◌, ◌==◌, ℕ, ◌+◌, ◌<◌, suc, Bool, true, false, List, [], ◌∷◌, ◌++◌, map, take, codes, All, get_or, length, length-append, refl, sym, ap, ap₂, ◌∙◌, subst, append_assoc, append-nil, arith, MatchBool}
use Rattle.std.specs.List.{join_with_byte}
use Rattle.std.specs.Fmt.{decimal}
use Rattle.std.proofs.lemmas.List.{get_or_append_left, take_more}
use Rattle.std.proofs.lemmas.List.Elements.{All-nil, All-cons}
use Rattle.std.proofs.lemmas.Grind.{flat_map-append}
use Rattle.std.proofs.lemmas.List.Splits.{slice_split_at}
use Rattle.fabric_script.specs.declared.forms.Form.{Form}
use Rattle.fabric_script.specs.declared.forms.Form.TheVariants as F
use Rattle.fabric_script.specs.declared.lines.Line.{Line}
use Rattle.fabric_script.specs.declared.lines.Line.TheVariants.{Endpoint, Switch, Link, Buffers, Route, Default, Lock, Large, Credits, Send, Read, Write, Send16, Read16, Write16, Pump, Deliver, Alter, Insert, Erase, Timeout, Settle, Move, Collect, Run}
use Rattle.fabric_script.specs.declared.lines.Numbered.{Numbered}
use Rattle.fabric_script.specs.Names.{name_of}
use Rattle.fabric_script.specs.Forms.{Field, NewName, Node, Port, Number, Hex, Digits, Character, keyword_of, fields_of}
use Rattle.fabric_script.specs.Texts.{Value, Named, NodeValue, PortValue, Counted, Bytes, InDigits, Code, value_text}
use Rattle.fabric_script.specs.Lines.{form_of, values_of, line_words, line_text, new_name, words_of}
use Rattle.fabric_script.specs.declared.known.Mode.TheVariants as Mode
use Rattle.fabric_script.specs.Known.{Known, IsOrderly, nothing, known_after, names_after}
use Rattle.fabric_script.specs.Hits.{FitsField, FitAll}
use Rattle.fabric_script.specs.Reading.{new_name_in, second_word, MayBe, IsFree, Spells}
use Rattle.fabric_script.specs.Scripts.{pieces_of, is_skipped, KeptThen, SpellsFrom, IsScript, PassesFrom, ScriptPasses, renumbered}
use Rattle.fabric_script.specs.LineTexts.{AreNamed, script_text}
use Rattle.fabric_script.proofs.Points.{Lacks}
use Rattle.fabric_script.proofs.LineLaws.{small_fields}
use Rattle.fabric_script.proofs.KnownLaws.{nothing-orderly, orderly-after}
use Rattle.fabric_script.proofs.ScriptLaws.{names-after}
use Rattle.fabric_script.proofs.Joins.{AreVisible, visible_values, visible_keyword, split_join, join_lacks}

-- ---- more names behind those that are known

-- the names at the end begin with those that are known
pub names_end : (known : Known) (names : List (List ℕ)) (lines : List Numbered)
    → PassesFrom known names lines → (behind : List (List ℕ)) × (names ≡ known.names ++ behind)
names_end known names [] passes = ([], sym passes ∙ sym (append-nil known.names))
names_end known names (line ∷ lines) passes =
    let new = new_name names line.line in
    let rest = names_end (known_after known new line.line) names lines passes.2 in
    let here = names-after known.names new line.line in (
      here.0 ++ rest.0,
      rest.1 ∙ ap (λ ns. ns ++ rest.0) here.1 ∙ append_assoc known.names here.0
          rest.0,
    )

name_stays : (names behind : List (List ℕ)) (n : ℕ) → n < length names → name_of (names ++ behind) n
    ≡ name_of names n
name_stays names behind n within = get_or_append_left names behind [] n within

text_stays : (known : Known) (behind : List (List ℕ)) (field : Field) (value : Value)
    → FitsField known field value → value_text (known.names ++ behind) value
    ≡ value_text known.names value
text_stays known behind NewName (Named name) f = refl
text_stays known behind Node (NodeValue n) f = name_stays known.names behind n f
text_stays known behind Port (PortValue p) f = ap (λ name. name ++ codes "." ++ decimal p.port)
    (name_stays known.names behind p.node f.0)
text_stays known behind (Number least most) (Counted n) f = refl
text_stays known behind Hex (Bytes bytes) f = refl
text_stays known behind (Digits count) (InDigits shown n) f = refl
text_stays known behind Character (Code c) f = refl
text_stays known behind NewName _ f = absurd f
text_stays known behind Node _ f = absurd f
text_stays known behind Port _ f = absurd f
text_stays known behind (Number least most) _ f = absurd f
text_stays known behind Hex _ f = absurd f
text_stays known behind (Digits count) _ f = absurd f
text_stays known behind Character _ f = absurd f

texts_stay : (known : Known) (behind : List (List ℕ)) (fields : List Field) (values : List Value)
    → FitAll known fields values → map (value_text (known.names ++ behind)) values
    ≡ map (value_text known.names) values
texts_stay known behind [] [] f = refl
texts_stay known behind (field ∷ fields) (value ∷ values) f =
    ap₂ ◌∷◌ (text_stays known behind field value f.0) (texts_stay known behind fields values f.1)
texts_stay known behind [] (value ∷ values) f = absurd f
texts_stay known behind (field ∷ fields) [] f = absurd f

-- ---- a line that is printed is read again

-- the words of a printed line are its words, with the names that are known
printed_words : (known : Known) (names : List (List ℕ)) (line : Line) → IsOrderly known
    → (behind : List (List ℕ)) → names ≡ known.names ++ behind → MayBe known (new_name names line)
    line → words_of (line_text names line) ≡ line_words known.names (new_name names line) line
printed_words known names line orderly behind more may =
    let new = new_name names line in
    let same : line_words names new line ≡ line_words known.names new line =
    ap (λ ws. keyword_of (form_of line) ∷ ws)
    (ap (λ ns. map (value_text ns) (values_of new line)) more
    ∙ texts_stay known behind (fields_of (form_of line)) (values_of new line) may.fit) in
    let visible = visible_values known (fields_of (form_of line)) (values_of new line) orderly
    (small_fields (form_of line)) may.fit in
    ap (λ ws. words_of (join_with_byte 32 ws)) same ∙ split_join (keyword_of (form_of line))
    (map (value_text known.names) (values_of new line)) (visible_keyword (form_of line)) visible

-- a new node's name stands in the text
own_name : (known : Known) (text : List ℕ) (names : List (List ℕ)) (line : Line) → words_of text
    ≡ line_words known.names (new_name names line) line → new_name_in text line
    ≡ new_name names line
own_name known text names (Endpoint name id) e = ap second_word e
own_name known text names (Switch name ports) e = ap second_word e
own_name known text names _ e = refl

printed_line : (known : Known) (names : List (List ℕ)) (line : Line) → IsOrderly known
    → (behind : List (List ℕ)) → names ≡ known.names ++ behind → MayBe known (new_name names line)
    line → IsFree known line → Spells known (line_text names line) line
    × (new_name_in (line_text names line) line ≡ new_name names line)
printed_line known names line orderly behind more may free =
    let words = printed_words known names line orderly behind more may in
    let own = own_name known (line_text names line) names line words in (
      record {
        says = record {
          words = words ∙ ap (λ new. line_words known.names new line) (sym own);
          may = subst (λ new. MayBe known new line) (sym own) may;
        };
        free = free;
      },
      own,
    )

-- a printed line is kept: it begins with its keyword
keyword_kept : (form : Form) → is_skipped (keyword_of form) ≡ false
keyword_kept F.Endpoint = refl
keyword_kept F.Switch = refl
keyword_kept F.Link = refl
keyword_kept F.Buffers = refl
keyword_kept F.Route = refl
keyword_kept F.Default = refl
keyword_kept F.Lock = refl
keyword_kept F.Large = refl
keyword_kept F.Credits = refl
keyword_kept F.Send = refl
keyword_kept F.Read = refl
keyword_kept F.Write = refl
keyword_kept F.Send16 = refl
keyword_kept F.Read16 = refl
keyword_kept F.Write16 = refl
keyword_kept F.Pump = refl
keyword_kept F.Deliver = refl
keyword_kept F.Alter = refl
keyword_kept F.Insert = refl
keyword_kept F.Erase = refl
keyword_kept F.Timeout = refl
keyword_kept F.Settle = refl
keyword_kept F.Move = refl
keyword_kept F.Collect = refl
keyword_kept F.Run = refl

join_kept : (word : List ℕ) (words : List (List ℕ)) → is_skipped word ≡ false
    → is_skipped (join_with_byte 32 (word ∷ words)) ≡ false
join_kept [] words e = absurd cc
join_kept (c ∷ word) [] e = e
join_kept (c ∷ word) (next ∷ words) e = e

not_skipped : (names : List (List ℕ)) (line : Line) → is_skipped (line_text names line) ≡ false
not_skipped names line =
    join_kept (keyword_of (form_of line))
    (map (value_text names) (values_of (new_name names line) line)) (keyword_kept (form_of line))

lacks_line_feed : (known : Known) (names : List (List ℕ)) (line : Line) → IsOrderly known
    → (behind : List (List ℕ)) → names ≡ known.names ++ behind → MayBe known (new_name names line)
    line → Lacks 10 (line_text names line)
lacks_line_feed known names line orderly behind more may =
    let new = new_name names line in
    let visible = visible_values known (fields_of (form_of line)) (values_of new line) orderly
    (small_fields (form_of line)) may.fit in
    let same : map (value_text names) (values_of new line)
    ≡ map (value_text known.names) (values_of new line) =
    ap (λ ns. map (value_text ns) (values_of new line)) more
    ∙ texts_stay known behind (fields_of (form_of line)) (values_of new line) may.fit in
    join_lacks (keyword_of (form_of line)) (map (value_text names) (values_of new line))
    (visible_keyword (form_of line)) (subst AreVisible (sym same) visible)

-- the pieces of a printed script, one after another
first_piece : (text rest : List ℕ) → Lacks 10 text → pieces_of ((text ++ 10 ∷ []) ++ rest) ≡ text
    ∷ pieces_of rest
first_piece text rest lacks = ap pieces_of (append_assoc text (10 ∷ []) rest)
    ∙ slice_split_at (λ byte. byte == 10) text 10 rest lacks refl

printed_from : (number : ℕ) (known : Known) (names : List (List ℕ)) (lines : List Numbered)
    → IsOrderly known → PassesFrom known names lines → (end : Known) × (end.names ≡ names)
    × SpellsFrom number known (pieces_of (script_text names lines)) (renumbered number lines) end
printed_from number known names [] orderly passes = (known, passes, (refl, refl))
printed_from number known names (line ∷ lines) orderly passes =
    let l = line.line in
    let new = new_name names l in
    let text = line_text names l in
    let ends = names_end known names (line ∷ lines) passes in
    let pl = printed_line known names l orderly ends.0 ends.1 passes.0 passes.1 in
    let rest = printed_from (suc number) (known_after known new l) names lines
    (orderly-after known new l orderly passes.0) passes.2 in
    let behind =
    subst (λ n. SpellsFrom (suc number) (known_after known n l)
    (pieces_of (script_text names lines)) (renumbered (suc number) lines) rest.0) (sym pl.1)
    rest.2 in
    let pieces : pieces_of (script_text names (line ∷ lines)) ≡ text
    ∷ pieces_of (script_text names lines) = first_piece text (script_text names lines)
    (lacks_line_feed known names l orderly ends.0 ends.1 passes.0) in (
      rest.0,
      rest.1,
      subst (λ ps. SpellsFrom number known ps (renumbered number (line ∷ lines)) rest.0)
          (sym pieces)
          (kept (is_skipped text)
          (SpellsFrom (suc number) known (pieces_of (script_text names lines))
          (renumbered number (line ∷ lines)) rest.0)
          (KeptThen
          (λ next more. SpellsFrom (suc number) next (pieces_of (script_text names lines)) more
          rest.0) number known text (renumbered number (line ∷ lines))) (not_skipped names l)
          (l, renumbered (suc number) lines, refl, pl.0, behind)),
    )
  where
    kept : (b : Bool) (A B : Type 0) → b ≡ false → B → MatchBool b A B
    kept true A B e h = absurd cc
    kept false A B e h = h

pub printed : (names : List (List ℕ)) (lines : List Numbered) → ScriptPasses names lines
    → IsScript (script_text names lines) names (renumbered 1 lines)
printed names lines passes = printed_from 1 nothing names lines (nothing-orderly Mode.Script) passes

-- ---- the nodes of a script that passes have names

within : (names more behind : List (List ℕ)) (n : ℕ) → n < length names → more ≡ names ++ behind → n
    < length more
within names more behind n below e = omega (arith, below, ap length e, length-append names behind)

own_node : (names : List (List ℕ)) (new : List ℕ) (more behind : List (List ℕ)) (n : ℕ) → n
    ≡ length names → more ≡ (names ++ new ∷ []) ++ behind → n < length more
own_node names new more behind n last e =
    omega (
      arith,
      last,
      ap length e,
      length-append (names ++ new ∷ []) behind,
      length-append names
          (new ∷ []),
    )

named_of : (known : Known) (new : List ℕ) (line : Line) (names behind : List (List ℕ))
    → MayBe known new line → names ≡ names_after known.names new line ++ behind
    → AreNamed names line
named_of known new (Endpoint name id) names behind may e =
    own_node known.names new names behind name may.next e
named_of known new (Switch name ports) names behind may e =
    own_node known.names new names behind name may.next e
named_of known new (Link a b) names behind may e = (
  within known.names names behind a.node may.fit.0.0 e,
  within known.names names behind b.node
      may.fit.1.0.0 e,
)
named_of known new (Buffers port n) names behind may e = within known.names names behind port.node
    may.fit.0.0 e
named_of known new (Route node id p) names behind may e =
    within known.names names behind node may.fit.0 e
named_of known new (Default node p) names behind may e =
    within known.names names behind node may.fit.0 e
named_of known new (Lock node id) names behind may e =
    within known.names names behind node may.fit.0 e
named_of known new (Large node id) names behind may e =
    within known.names names behind node may.fit.0 e
named_of known new (Credits port) names behind may e =
    within known.names names behind port.node may.fit.0.0 e
named_of known new (Send node prio ftype dest hex) names behind may e =
    within known.names names behind node may.fit.0 e
named_of known new (Read node prio dest hop tid offset) names behind may e =
    within known.names names behind node may.fit.0 e
named_of known new (Write node prio dest hop tid offset value) names behind may e =
    within known.names names behind node may.fit.0 e
named_of known new (Send16 node prio ftype dest hex) names behind may e =
    within known.names names behind node may.fit.0 e
named_of known new (Read16 node prio dest hop tid offset) names behind may e =
    within known.names names behind node may.fit.0 e
named_of known new (Write16 node prio dest hop tid offset value) names behind may e =
    within known.names names behind node may.fit.0 e
named_of known new (Pump port n) names behind may e = within known.names names behind port.node
    may.fit.0.0 e
named_of known new (Deliver port n) names behind may e = within known.names names behind port.node
    may.fit.0.0 e
named_of known new (Alter port place ch) names behind may e =
    within known.names names behind port.node may.fit.0.0 e
named_of known new (Insert port place ch) names behind may e =
    within known.names names behind port.node may.fit.0.0 e
named_of known new (Erase port place n) names behind may e =
    within known.names names behind port.node may.fit.0.0 e
named_of known new (Timeout port) names behind may e = within known.names names behind port.node
    may.fit.0.0 e
named_of known new (Settle port) names behind may e = within known.names names behind port.node
    may.fit.0.0 e
named_of known new (Move node) names behind may e = within known.names names behind node may.fit.0 e
named_of known new (Collect node) names behind may e =
    within known.names names behind node may.fit.0 e
named_of known new (Run n) names behind may e = tt

pub named_all : (known : Known) (names : List (List ℕ)) (lines : List Numbered)
    → PassesFrom known names lines → All (λ line. AreNamed names line.line) lines
named_all known names [] passes = All-nil (λ line. AreNamed names line.line)
named_all known names (line ∷ lines) passes =
    let new = new_name names line.line in
    let ends = names_end (known_after known new line.line) names lines passes.2 in
    All-cons (λ line. AreNamed names line.line) line lines
    (named_of known new line.line names ends.0 passes.0 ends.1)
    (named_all (known_after known new line.line) names lines passes.2)

-- one line more is printed
pub printed-turn : (names : List (List ℕ)) (lines : List Numbered) (i : ℕ) (line : Numbered)
    → i < length lines → line ≡ get_or lines i line
    → script_text names (take i lines) ++ (line_text names line.line ++ 10 ∷ [])
    ≡ script_text names (take (i + 1) lines)
printed-turn names lines i line below here =
    let front = script_text names (take i lines) in
    let text = line_text names line.line ++ 10 ∷ [] in
    let more : take (i + 1) lines ≡ take i lines ++ line ∷ [] =
    take_more lines i line below ∙ ap (λ l. take i lines ++ l ∷ []) (sym here) in
    let one : script_text names (line ∷ []) ≡ text = append-nil text in
    sym (ap (script_text names) more
    ∙ flat_map-append (λ l. line_text names l.line ++ 10 ∷ []) (take i lines) (line ∷ [])
    ∙ ap (λ t. front ++ t) one)
