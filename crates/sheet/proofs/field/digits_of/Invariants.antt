use Rattle.std.proofs.Common.{◌≡◌, ◌^◌, ◌<◌, drop}
use Rattle.sheet.specs.Fields.{digits}
use Rattle.sheet.proofs.field.digits_of.Given as goal

-- What is left, from the value so far, gives what all gives from 0.
abbrev pub invariant-loop-b : goal.invariant-loop-b
invariant-loop-b l = (l.value < 10 ^ l.b-index) × (digits l.value (drop l.b-index l.bytes) ≡ digits 0 l.bytes)
