use Rattle.std.proofs.Common.{◌≡◌, ◌<◌, ◌++◌, ◌∷◌, [], false, length, set, ap, ◌∙◌, sym, subst, length-set}
use Rattle.std.proofs.Common.{arith}
use Rattle.std.specs.Option.{option_to_list}
use Rattle.std.proofs.lemmas.List.{length_push}
use Rattle.cnf_core.specs.declared.clause.Lit.{Lit}
use Rattle.cnf_core.specs.Clause.{contains, assigned}
use Rattle.cdcl_base.specs.Codes.{code}
use Rattle.cdcl_base.proofs.CodeLemmas.{code-below}
use Rattle.cdcl_base.proofs.TrailState.{unassign_from-step, unassign_from-there}
use Rattle.cdcl_base.proofs.trail.unassign_from.Goals as goal

pub loop-lits-preserved : goal.loop-lits-preserved
loop-lits-preserved c =
    let split : c.loop-lits.lits.items ≡ c.pop.new.self.items ++ c.unwrap-lit.result ∷ [] =
    c.pop.ensures.items ∙ ap (λ r. c.pop.new.self.items ++ option_to_list r) c.unwrap-lit.ensures in
    let there =
    unassign_from-there c.requires.room.0 c.args.lits.now.items c.loop-lits.lits.items c.pop.new.self.items
    c.unwrap-lit.result c.requires.room.1 c.loop-lits.invariant.front split in
    let below = code-below c.unwrap-lit.result c.requires.room.0 there in
    let truths_len = c.loop-lits.invariant.truths_len in
    let room = c.requires.room.2 in
    let inside : code c.unwrap-lit.result < length c.loop-lits.truths.items =
    omega (arith, below, truths_len, room) in
    let step =
    unassign_from-step c.args.lits.now.items c.loop-lits.lits.items c.pop.new.self.items c.loop-lits.truths.items
    c.unwrap-lit.result c.requires.distinct c.loop-lits.invariant.front split c.loop-lits.invariant.agree inside in
    record {
      place = omega (arith, ap length split, length_push c.pop.new.self.items c.unwrap-lit.result);
      front = step.0;
      agree =
          subst (λ n. (x : Lit) → assigned (set c.loop-lits.truths.items n false) (code x) ≡
          contains c.pop.new.self.items x) (sym c.code.ensures.code) step.1;
      truths_len = length-set c.loop-lits.truths.items c.code.result _ ∙ c.loop-lits.invariant.truths_len;
      phases_len = length-set c.loop-lits.phases.items c.variable.result _ ∙ c.loop-lits.invariant.phases_len;
    }
