-- A text has one list of tokens, or one fault in them.
use Rattle.std.proofs.Common.{◌≡◌, ℕ, List, [], Result, Ok, Err}
use Rattle.sc_syntax.proofs.Once.{once}
use Rattle.sc_syntax.specs.Directives.{no_names}
use Rattle.sc_syntax.specs.Lexing.{IsLexed, HasFault}
use Rattle.sc_syntax.specs.declared.fault.LexFault.{LexFault}
use Rattle.sc_syntax.specs.declared.token.Token.{Token}

abbrev lexed : List Token → Result (List Token) LexFault
lexed tokens = Ok tokens

abbrev failed : LexFault → Result (List Token) LexFault
failed fault = Err fault

same_lists : {a b : List Token} → lexed a ≡ lexed b → a ≡ b
same_lists {a} {b} is = cc

same_faults : {a b : LexFault} → failed a ≡ failed b → a ≡ b
same_faults {a} {b} is = cc

-- two readings of a text give the same tokens
pub same_tokens : {text : List ℕ} {a b : List Token} → IsLexed text a → IsLexed text b → a ≡ b
same_tokens {text = text} first second = same_lists (once text [] no_names [] text _ _ first second)

-- and the same fault
pub same_fault : {text : List ℕ} {a b : LexFault} → HasFault text a → HasFault text b → a ≡ b
same_fault {text = text} first second = same_faults (once text [] no_names [] text _ _ first second)
