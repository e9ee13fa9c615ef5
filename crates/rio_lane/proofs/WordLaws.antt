-- Words that spell no character and no group, after some that do.
use Rattle.std.proofs.Common.{◌≡◌, ◌≢◌, ℕ, ◌<◌, ◌≤◌, ◌-◌, length, get_or, take, drop, true, List, [], ◌∷◌, ◌++◌, map, refl, sym, ap, ◌∙◌, subst, append_assoc, arith}
use Rattle.std.proofs.lemmas.List.{map-append}
use Rattle.rio_chars.specs.CharText.{char_text_of, spaced_chars}
use Rattle.rio_chars.specs.declared.chars.Char.{Char}
use Rattle.rio_chars.specs.declared.chars.Char.TheVariants.{Special}
use Rattle.code_groups.specs.declared.disparity.Disparity.{Disparity}
use Rattle.code_groups.proofs.CommaLaws.{group-range}
use Rattle.code_groups.specs.Groups.{has_group, disparity_after}
use Rattle.code_groups.specs.Streams.{HaveGroups, HaveTenBits, groups_from}
use Rattle.rio_chars.proofs.SpacedLaws.{front_one}
use Rattle.rio_chars.proofs.WrittenLaws.{Writes-then}
use Rattle.rio_chars.specs.Written.{Outgoing, Writes}
use Rattle.group_text.proofs.ListLaws.{front_of}
use Rattle.group_text.specs.GroupTexts.{group_text_of, spaced_groups}
use Rattle.rio_lane.specs.LaneAnswers.{SpellSent, SpellGroups, burst_chars, joined_groups, joined_chars}

sent_stops : (done chars : List Char) (word : List ℕ) (rest : List (List ℕ))
    → ((c : Char) → has_group c ≡ true → word ≢ char_text_of c) → HaveGroups chars
    → map char_text_of done ++ word ∷ rest ≡ map char_text_of chars → ⊥
sent_stops [] [] word rest none have is = absurd cc
sent_stops [] (c ∷ chars) word rest none have is = none c have.0 cc
sent_stops (d ∷ done) [] word rest none have is = absurd cc
sent_stops (d ∷ done) (c ∷ chars) word rest none have is =
    sent_stops done chars word rest none have.1 cc

pub sent_stop : (words : List (List ℕ)) (done : List Char) (word : List ℕ) (rest : List (List ℕ))
    → words ≡ map char_text_of done ++ word ∷ rest
    → ((c : Char) → has_group c ≡ true → word ≢ char_text_of c)
    → (chars : List Char) → ¬ SpellSent words chars
sent_stop words done word rest so_far none chars h =
    sent_stops done chars word rest none h.have (sym so_far ∙ h.are)

groups_stops : (done groups : List ℕ) (word : List ℕ) (rest : List (List ℕ))
    → ((group : ℕ) → word ≢ group_text_of group)
    → map group_text_of done ++ word ∷ rest ≡ map group_text_of groups → ⊥
groups_stops [] [] word rest none is = absurd cc
groups_stops [] (g ∷ groups) word rest none is = none g cc
groups_stops (d ∷ done) [] word rest none is = absurd cc
groups_stops (d ∷ done) (g ∷ groups) word rest none is = groups_stops done groups word rest none cc

pub groups_stop : (words : List (List ℕ)) (done : List ℕ) (word : List ℕ) (rest : List (List ℕ))
    → words ≡ map group_text_of done ++ word ∷ rest
    → ((group : ℕ) → word ≢ group_text_of group)
    → (groups : List ℕ) → ¬ SpellGroups words groups
groups_stop words done word rest so_far none groups h =
    groups_stops done groups word rest none (sym so_far ∙ h.are)

-- one more at the end
pub have_more : (chars : List Char) (c : Char) → HaveGroups chars → has_group c ≡ true
    → HaveGroups (chars ++ c ∷ [])
have_more [] c h k = (k, tt)
have_more (x ∷ chars) c h k = (h.0, have_more chars c h.1 k)

pub tens_more : (groups : List ℕ) (group : ℕ) → HaveTenBits groups → group < 1024
    → HaveTenBits (groups ++ group ∷ [])
tens_more [] group h k = (k, tt)
tens_more (x ∷ groups) group h k = (h.0, tens_more groups group h.1 k)

-- a burst has groups, and they have ten bits
pub have_burst : (chars : List Char) → HaveGroups chars → HaveGroups (burst_chars chars)
have_burst chars h = (refl, have_more chars (Special 0xbc) h refl)

pub groups_tens : (before : Disparity) (chars : List Char) → HaveGroups chars
    → HaveTenBits (groups_from before chars)
groups_tens before [] h = tt
groups_tens before (c ∷ chars) h =
    ((group-range before c h.0).1, groups_tens (disparity_after before c) chars h.1)

-- one word more was read
pub read_more : {A : Type 0} → (text : A → List ℕ) (words : List (List ℕ)) (done : List A) (one : A)
    (word : List ℕ) (rest : List (List ℕ)) → words ≡ map text done ++ word ∷ rest → word ≡ text one
    → words ≡ map text (done ++ one ∷ []) ++ rest
read_more text words done one word rest so_far is =
    so_far
    ∙ ap (λ (w : List ℕ). map text done ++ w ∷ rest) is
    ∙ sym (append_assoc (map text done) (text one ∷ []) rest)
    ∙ ap (λ (ws : List (List ℕ)). ws ++ rest) (sym (map-append text done (one ∷ [])))

-- the text of the first, and of those after it
pub groups_told : {old mid new : Outgoing} (left : List ℕ) (d : ℕ) → 1 ≤ length left
    → Writes old mid (group_text_of (get_or left 0 d))
    → Writes mid new (spaced_groups (take (length left - 1) (drop 1 left)))
    → Writes old new (joined_groups left)
groups_told {old} {mid} {new} left d some first rest =
    subst (λ (gs : List ℕ). Writes old new (joined_groups gs)) (sym (front_of left d some))
    (Writes-then (group_text_of (get_or left 0 d))
    (spaced_groups (take (length left - 1) (drop 1 left))) first rest)

pub chars_told : {old mid new : Outgoing} (left : List Char) (d : Char) → 1 ≤ length left
    → Writes old mid (char_text_of (get_or left 0 d))
    → Writes mid new (spaced_chars (take (length left - 1) (drop 1 left)))
    → Writes old new (joined_chars left)
chars_told {old} {mid} {new} left d some first rest =
    subst (λ (cs : List Char). Writes old new (joined_chars cs)) (sym (front_one left d some))
    (Writes-then (char_text_of (get_or left 0 d))
    (spaced_chars (take (length left - 1) (drop 1 left))) first rest)

-- a list with nothing in it
pub no_chars : (xs : List Char) → length xs < 1 → xs ≡ []
no_chars [] h = refl
no_chars (x ∷ xs) h = absurd (omega arith)
