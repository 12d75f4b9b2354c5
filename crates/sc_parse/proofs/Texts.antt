-- A text stands for one tree at most, and that one is formed.
use Rattle.std.proofs.Common.{◌≡◌, subst, ℕ, List, Ok}
use Rattle.sc_syntax.specs.declared.Token.{Token}
use Rattle.sc_syntax.specs.Lexing.{IsLexed}
use Rattle.sc_syntax.proofs.LexedRead.{lexed_are_read}
use Rattle.sc_syntax.proofs.Once.{one_outcome}
use Rattle.sc_parse.specs.Grammar.{IsTreeOf}
use Rattle.sc_parse.specs.Texts.{HasOneFormedTree}
use Rattle.sc_parse.proofs.FormedSources.{source_formed}
use Rattle.sc_parse.proofs.OneTree.{one_tree}

same_tokens : (text : List ℕ) (ts us : List Token) → IsLexed text ts → IsLexed text us → us ≡ ts
same_tokens text ts us a b = let e = one_outcome text (Ok us) (Ok ts) b a in cc

pub one_formed_tree : HasOneFormedTree
one_formed_tree = record {
  one = λ text a b h k. one_tree text h.tokens a b h.derives (subst (λ (ts : List Token). IsTreeOf text ts b) (same_tokens text h.tokens k.tokens h.lexed k.lexed) k.derives);
  formed = λ text tree h. source_formed text h.tokens tree (lexed_are_read text h.tokens h.lexed) h.derives;
}
