-- What is proved of reading a sheet: an accepted one holds 0 past its counts (proofs/Text/Readings.antt). No contract cites it.
use Rattle.std.specs.Prelude.{◌≡◌, take}
use Rattle.model.specs.Sheet.{quantities_held, terms_held}
use Rattle.model.specs.declared.Sheet.{Sheet}

-- a sheet holds 0 past its counts
pub record ZeroPastCounts (sheet : Sheet) : Type 0 where
  pub quantities : sheet.quantities ≡ quantities_held (take sheet.head.n sheet.quantities)
  pub terms : sheet.terms ≡ terms_held sheet.terms.count (take sheet.terms.count sheet.terms.list)
