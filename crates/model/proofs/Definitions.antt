-- The names of the definitions, once: to unfold `EveryDefinition` is to unfold each of them, which a proof by computation does.
use mathlib.Core.List.{flatten}
use Rattle.rounding.specs.Rounding.{near, near_ℕ, up}
use Rattle.ranges.specs.Range.{sum, sum_ℤ, largest, every, tabulate, least, bytes}
use Rattle.model.specs.Sheet.{scale, most, number, result, refused_step, verdict_number, verdict_outcome, ask, ◌then◌, in_order, from◌to◌, ±◌, within, n_limits, steps_limits, step_limits, step_within, tail_limits, tol_limits, start_limits, radius_limits, terms_limits, to_limits, coef_limits, first_limits, second_limits, in_range, step_verdict, head_verdict, start_verdict, quantity_verdict, quantities_verdict, term_verdict, terms_verdict, no_quantity, no_term, sheet_verdict_to, listed, padded, quantities_held, terms_held, no_head, no_sheet, terms_of, start_value, start_ball, starts_of}
use Rattle.model.specs.Reading.{is_digit, digits, natural, negated, signed, after, ended, line, gives, return, ◌>>=◌, times as so-many, ranged, field, signed_field, step, head, start, quantity, quantities, term, terms, end, body, sheet, accepted, read_sheet_to}
use Rattle.model.specs.LikeTerms.{like, coefs_like, filter, summed, nonzero, gathered}
use Rattle.model.specs.Step.{no_ball, no_span, no_row, reach, greatest, factors, brings, brings_ℤ, coef_of, coefs, size, ratio_by, ratio, majorant, tail_at, degree, coefficient, factor, product_radius, products, times, share, next_coefficient, coefficients_to, new_ball, step_reach, new_span, new_row, step_row}
use Rattle.model.specs.Rows.{balls_of, laid_out, spans_of, spans_laid_out, no_spans, width, row_parts, row_places, places, written, row_in, rows_in}
use Rattle.model.specs.Passage.{question, small, most_ratio, slow, tolerable, tolerated, advance, refused, go_on, follow, places_needed, run, passage, step_of, rows_written}
use Rattle.model.specs.Answer.{digit, decimal_by, decimal, printed, quantities_text, rows_text, outcome_text, run_text, run_of, answer}

-- those of ranges and roundings
unfoldable pub EveryRange : Type 0
unfolding flatten near near_ℕ up sum sum_ℤ largest every tabulate least bytes
EveryRange = Unit {0}

-- those of documents 01 and 02
unfoldable pub EveryDefinition : Type 0
unfolding EveryRange scale most number result refused_step verdict_number verdict_outcome ask ◌then◌ in_order from◌to◌ ±◌ within n_limits steps_limits step_limits step_within tail_limits tol_limits start_limits radius_limits terms_limits to_limits coef_limits first_limits second_limits in_range step_verdict head_verdict start_verdict quantity_verdict quantities_verdict term_verdict terms_verdict no_quantity no_term sheet_verdict_to listed padded quantities_held terms_held no_head no_sheet terms_of start_value start_ball starts_of is_digit digits natural negated signed after ended line gives return ◌>>=◌ so-many ranged field signed_field step head start quantity quantities term terms end body sheet accepted read_sheet_to like coefs_like filter summed nonzero gathered no_ball no_span no_row reach greatest factors brings brings_ℤ coef_of coefs size ratio_by ratio majorant tail_at degree coefficient factor product_radius products times share next_coefficient coefficients_to new_ball step_reach new_span new_row step_row balls_of laid_out spans_of spans_laid_out no_spans width row_parts row_places places written row_in rows_in question small most_ratio slow tolerable tolerated advance refused go_on follow places_needed run passage step_of rows_written digit decimal_by decimal printed quantities_text rows_text outcome_text run_text run_of answer
EveryDefinition = EveryRange
