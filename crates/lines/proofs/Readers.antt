-- How what is read is put together, by one name: to unfold it is to unfold each of these definitions.
use Rattle.ranges.specs.Range.{bytes}
use Rattle.model.specs.Sheet.{scale, most, from◌to◌, ±◌, n_limits, tail_limits, tol_limits, start_limits, radius_limits, terms_limits, coef_limits}
use Rattle.model.specs.Reading.{after, ended, line, ranged, gives, return, ◌>>=◌, field, signed_field}
use Rattle.lines.specs.Lines.{spelling, line_after, line_asked, line_gives}
use Rattle.lines.specs.Fields.{whole_after, natural_after, field_gives}

-- a line, and the field on it
unfoldable pub Readers : Type 0
unfolding after ended ranged gives return ◌>>=◌ line_after line_asked line_gives whole_after natural_after field_gives
Readers = Unit {0}

-- fields one after the other, each of a known key and known limits
unfoldable pub FieldReaders : Type 0
unfolding bytes scale most from◌to◌ ±◌ n_limits tail_limits tol_limits start_limits radius_limits terms_limits coef_limits line ranged gives return ◌>>=◌ field signed_field spelling line_after whole_after natural_after
FieldReaders = Unit {0}
