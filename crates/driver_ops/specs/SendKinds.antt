-- The kinds of send that one operation has: some commands change where they are sent again.
use Rattle.std.specs.Prelude.{Bool, true, false}

-- the first send; one after failures that all told of overload; one after any other failure
pub data SendKind : Type 0 where
  first : SendKind
  overload : SendKind
  resend : SendKind

-- the kind of the next send after one more failure: once it is a resend, it stays one
abbrev pub kind_after : Bool → SendKind → SendKind
kind_after overloaded resend = resend
kind_after true kind = overload
kind_after false kind = resend
