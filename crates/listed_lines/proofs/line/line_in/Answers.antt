-- `listed_lines::line::line_in` meets its contract: the first byte tells whether it is a request's line.
use Prim.Native.Nat.{ℕ}
use mathlib.Core.Path.{◌≡◌, refl, sym, ◌∙◌}
use mathlib.Core.List.{List}
use Rattle.std.specs.Prelude.{Option, None, Some, MatchOption}
use Rattle.std.proofs.Common.{rules}
use Rattle.listed_lines.specs.declared.line.Head.{Head}
use Rattle.listed_lines.specs.declared.line.Request.{Request}
use Rattle.listed_lines.specs.declared.line.Line.{Line}
use Rattle.listed_lines.specs.declared.line.Line.TheVariants.{Not, Head as IsHead, Request as IsRequest}
use Rattle.listed_lines.specs.Given.{head_line, request_line, line_in}
use Rattle.listed_lines.proofs.Starts.{keyed_line, candidate-line, other-line}
use Rattle.listed_lines.proofs.line.line_in.Goals as goal

-- a request's line, or one of no form
requested : (o : Option Request) (r : Line) → MatchOption o (r ≡ Not) (λ x. r ≡ IsRequest x) → (ws ps : List ℕ) → request_line ws ps o ≡ line_in ws ps r
requested None r e ws ps = rw e refl
requested (Some x) r e ws ps = rw e refl

-- a first line, or one of no form
headed : (o : Option Head) (r : Line) → MatchOption o (r ≡ Not) (λ x. r ≡ IsHead x) → (ws ps : List ℕ) → head_line o ≡ line_in ws ps r
headed None r e ws ps = rw e refl
headed (Some x) r e ws ps = rw e refl

pub returns-then-starts_request : goal.returns-then-starts_request
returns-then-starts_request c =
    let m : MatchOption c.read_request.result (c.map_or.result ≡ Not) (λ x. c.map_or.result ≡ IsRequest x) = search rules in
    keyed_line c.args.line.now (sym c.starts_request.ensures ∙ c.if-starts_request.true) ∙ c.read_request.ensures ∙ requested _ _ m _ _

pub returns-in-Some : goal.returns-in-Some
returns-in-Some c = candidate-line _ (sym c.starts_request.ensures ∙ c.if-starts_request.false) c.in-Some.ensures

pub returns : goal.returns
returns c =
    let m : MatchOption c.read_head.result (c.map_or-2.result ≡ Not) (λ x. c.map_or-2.result ≡ IsHead x) = search rules in
    other-line _ (sym c.starts_request.ensures ∙ c.if-starts_request.false) c.in_default.ensures ∙ c.read_head.ensures ∙ headed _ _ m _ _
