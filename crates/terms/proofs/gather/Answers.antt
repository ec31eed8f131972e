-- `terms::gather` meets its contract: the sums that are not 0 are the gathered terms.
use mathlib.Core.List.{List}
use mathlib.Core.Path.{◌≡◌, ap, ◌∙◌}
use Rattle.model.specs.LikeTerms.{filter, nonzero, summed, gathered}
use Rattle.model.specs.declared.Term.{Term}
use Rattle.laws.proofs.Bounds.CountedTerms.{few_listed}
use Rattle.terms.proofs.gather.Goals as goal

all : {terms given sums handed left : List Term} → given ≡ terms → sums ≡ summed given → handed ≡ sums → left ≡ filter nonzero handed → left ≡ gathered terms
unfolding gathered
all same is e f = f ∙ ap (filter nonzero) (e ∙ is ∙ ap summed same)

pub returns : goal.returns
returns c =
    all (c.listed.ensures (few_listed c.args.terms.now c.requires)) c.sum_like-sums.ensures.sums (c.listed-2.ensures c.sum_like-sums.ensures.few) c.drop_zeros.ensures
