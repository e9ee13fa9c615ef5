use Rattle.std.proofs.Common.{◌∷◌, [], ◌++◌, codes, map, sym, ap, ◌∙◌, append_assoc, rules, tests}
use Rattle.std.specs.List.{flat_map}
use Rattle.std.proofs.lemmas.List.{map-append}
use Rattle.std.proofs.lemmas.Iterator.Consumers.{YieldsList-end}
use Rattle.fabric_script.proofs.PieceLaws.{pieces-road}
use Rattle.live_fabric.specs.Pieces.{told_piece}
use Rattle.live_fabric.proofs.QuietLaws.{untold_more, told_more}
use Rattle.live_fabric.proofs.quiet.quiet_lines.Goals as goal

pub loop-piece-preserved-then-is_untold : goal.loop-piece-preserved-then-is_untold
loop-piece-preserved-then-is_untold c =
    let done = map (λ t. t.now) c.loop-piece.yielded in
    record {
      told =
          c.loop-piece.invariant.told
          ∙ sym (untold_more done c.in-Some.piece.now (sym c.if-is_untold.ensures))
          ∙ ap (flat_map told_piece)
          (sym (map-append (λ t. t.now) c.loop-piece.yielded (c.in-Some.piece ∷ [])));
    }

pub loop-piece-preserved : goal.loop-piece-preserved
loop-piece-preserved c =
    let done = map (λ t. t.now) c.loop-piece.yielded in
    let piece = c.in-Some.piece.now in
    record {
      told =
          c.in_ok-extend_from_slice-2.ensures.items
          ∙ ap (λ l. l ++ codes "\n")
          (c.in_ok-extend_from_slice.ensures.items
          ∙ ap (λ l. l ++ piece) c.loop-piece.invariant.told)
          ∙ append_assoc (flat_map told_piece done) piece (codes "\n")
          ∙ sym (told_more done piece (sym c.if-is_untold.ensures))
          ∙ ap (flat_map told_piece)
          (sym (map-append (λ t. t.now) c.loop-piece.yielded (c.in-Some.piece ∷ [])));
    }

pub returns : goal.returns
returns c =
    let all = pieces-road c.args.text.now c.loop-piece.yielded _ c.loop-piece.yielded_by
    (search rules) (search rules) (search rules) (λ x r q k. search (rules, tests)) in
    let end = YieldsList-end all c.loop-piece.yielded _ c.loop-piece.yielded_by _ _ c.in-None.is
    c.next.ensures.steps in
    rw (← end.0) c.loop-piece.invariant.told
