use Rattle.std.proofs.Common.{◌≡◌, ◌++◌, ◌∷◌, [], cond, sym, ap, ◌∙◌, arith}
use Rattle.std.proofs.lemmas.List.FromFn.{filter_of_map_range_with_len_more}
use Rattle.loc_encode.specs.Numbers.{source_at}
use Rattle.loc_encode.specs.Layout.{may_name}
use Rattle.loc_encode.specs.Claimed.{claim_in}
use Rattle.loc_encode.proofs.layout.Layout.choices.Goals as goal

pub loop-number-preserved : goal.loop-number-preserved
loop-number-preserved c =
    let more = filter_of_map_range_with_len_more (may_name (claim_in c.args.self.now) c.args.row c.args.place)
    source_at 0
    c.loop-number.number c.loop-number.number (omega arith) in
    let source : c.source_at-source.result ≡ source_at c.loop-number.number = c.source_at-source.ensures in
    let yes = c.may_name.ensures ∙ ap (may_name (claim_in c.args.self.now) c.args.row c.args.place) source in
    c.in_ok-push_if.ensures ∙ (λ i. c.loop-number.invariant i ++ cond (yes i) (source i ∷ []) []) ∙ sym more
