use Rattle.std.proofs.Common.{refl, arith, inl, inr, ◌≡◌}
use Rattle.std.proofs.lemmas.Bool.{cases_lt}
use Rattle.frame.specs.Tags.{class_of, lookup, unlisted}
use Rattle.type_rules.specs.Patterns.{rule_at}
use Rattle.type_rules.specs.CodeRules.{rule_for}
use Rattle.type_rules.proofs.TagRules.{rule_on, rule_off, rule_past}
use Rattle.type_rules.proofs.rule_of.Goals.{in_default-via-then-tag-lt351+then-tag-lt201+then-tag-lt101, in_default-via-then-tag-lt351+then-tag-lt201+else-tag-lt101+else-tag-lt103+else-tag-lt107+else-tag-lt109+else-tag-lt113, in_default-via-then-tag-lt351+else-tag-lt201+else-tag-lt228+then-tag-lt251, in_default-via-then-tag-lt351+else-tag-lt201+else-tag-lt228+else-tag-lt251+else-tag-lt253+then-tag-lt301, in_default-via-then-tag-lt351+else-tag-lt201+else-tag-lt228+else-tag-lt251+else-tag-lt253+else-tag-lt301+else-tag-lt308, in_default-via-else-tag-lt351+then-tag-lt751+else-tag-lt353+then-tag-lt401, in_default-via-else-tag-lt351+then-tag-lt751+else-tag-lt353+else-tag-lt401+else-tag-lt413+then-tag-lt610, in_default-via-else-tag-lt351+then-tag-lt751+else-tag-lt353+else-tag-lt401+else-tag-lt413+else-tag-lt610+else-tag-lt612, in_default-via-else-tag-lt351+else-tag-lt751+else-tag-lt765+then-tag-lt801, in_default-via-else-tag-lt351+else-tag-lt751+else-tag-lt765+else-tag-lt801+else-tag-lt803+then-tag-lt851, in_default-via-else-tag-lt351+else-tag-lt751+else-tag-lt765+else-tag-lt801+else-tag-lt803+else-tag-lt851+else-tag-lt853}
use Rattle.type_rules.proofs.rule_of.Goals as goal

pub returns-in-1 : goal.returns-in-1
unfolding rule_at class_of lookup
returns-in-1 c = rule_on 1 1 c.args.tag refl c.unary.ensures (omega arith) (omega arith)

pub returns-in-3 : goal.returns-in-3
unfolding rule_at class_of lookup
returns-in-3 c = rule_on 3 3 c.args.tag refl c.unary-in-3.ensures (omega arith) (omega arith)

pub returns-in-4 : goal.returns-in-4
unfolding rule_at class_of lookup
returns-in-4 c = rule_on 4 4 c.args.tag refl c.constant.ensures (omega arith) (omega arith)

pub returns-in-5 : goal.returns-in-5
unfolding rule_at class_of lookup
returns-in-5 c = rule_on 5 5 c.args.tag refl c.uniform.ensures (omega arith) (omega arith)

pub returns-in-601 : goal.returns-in-601
unfolding rule_at class_of lookup
returns-in-601 c = rule_on 601 601 c.args.tag refl c.unary-in-601.ensures (omega arith) (omega arith)

pub returns-in-620 : goal.returns-in-620
unfolding rule_at class_of lookup
returns-in-620 c = rule_on 620 620 c.args.tag refl c.unary-in-620.ensures (omega arith) (omega arith)

pub returns-in-701 : goal.returns-in-701
unfolding rule_at class_of lookup
returns-in-701 c = rule_on 701 701 c.args.tag refl c.unary-in-701.ensures (omega arith) (omega arith)

pub returns-in-803 : goal.returns-in-803
unfolding rule_at class_of lookup
returns-in-803 c = rule_on 803 803 c.args.tag refl c.binary.ensures (omega arith) (omega arith)

pub returns-in-901 : goal.returns-in-901
unfolding rule_at class_of lookup
returns-in-901 c = rule_on 901 901 c.args.tag refl c.uniform-in-901.ensures (omega arith) (omega arith)

pub returns-in-101-to-102 : goal.returns-in-101-to-102
unfolding rule_at class_of lookup
returns-in-101-to-102 c = rule_on 101 102 c.args.tag refl c.binary-in-101-to-102.ensures (omega arith) (omega arith)

pub returns-in-103-to-106 : goal.returns-in-103-to-106
unfolding rule_at class_of lookup
returns-in-103-to-106 c = rule_on 103 106 c.args.tag refl c.binary-in-103-to-106.ensures (omega arith) (omega arith)

pub returns-in-107-to-108 : goal.returns-in-107-to-108
unfolding rule_at class_of lookup
returns-in-107-to-108 c = rule_on 107 108 c.args.tag refl c.binary-in-107-to-108.ensures (omega arith) (omega arith)

pub returns-in-109-to-112 : goal.returns-in-109-to-112
unfolding rule_at class_of lookup
returns-in-109-to-112 c = rule_on 109 112 c.args.tag refl c.binary-in-109-to-112.ensures (omega arith) (omega arith)

pub returns-in-251-to-252 : goal.returns-in-251-to-252
unfolding rule_at class_of lookup
returns-in-251-to-252 c = rule_on 251 252 c.args.tag refl c.binary-in-251-to-252.ensures (omega arith) (omega arith)

pub returns-in-351-to-352 : goal.returns-in-351-to-352
unfolding rule_at class_of lookup
returns-in-351-to-352 c = rule_on 351 352 c.args.tag refl c.uniform-in-351-to-352.ensures (omega arith) (omega arith)

pub returns-in-610-to-611 : goal.returns-in-610-to-611
unfolding rule_at class_of lookup
returns-in-610-to-611 c = rule_on 610 611 c.args.tag refl c.constant-in-610-to-611.ensures (omega arith) (omega arith)

pub returns-in-801-to-802 : goal.returns-in-801-to-802
unfolding rule_at class_of lookup
returns-in-801-to-802 c = rule_on 801 802 c.args.tag refl c.binary-in-801-to-802.ensures (omega arith) (omega arith)

pub returns-in-851-to-852 : goal.returns-in-851-to-852
unfolding rule_at class_of lookup
returns-in-851-to-852 c = rule_on 851 852 c.args.tag refl c.unary-in-851-to-852.ensures (omega arith) (omega arith)

pub returns-in_default : goal.returns-in_default
unfolding rule_at class_of lookup
returns-in_default c =
    let e : rule_for c.constant-in_default.result ≡ rule_at unlisted = c.constant-in_default.ensures in
    elim c.in_default.branch [
      | in_default-via-then-tag-lt351+then-tag-lt201+then-tag-lt101 w ↦ elim (cases_lt c.args.tag 1) [ inl h0 ↦ rule_off 0 0 c.args.tag refl e (omega arith) (omega arith) | inr h0 ↦ elim (cases_lt c.args.tag 3) [ inl h1 ↦ rule_off 2 2 c.args.tag refl e (omega arith) (omega arith) | inr h1 ↦ rule_off 6 100 c.args.tag refl e (omega arith) (omega arith) ] ]
      | in_default-via-then-tag-lt351+then-tag-lt201+else-tag-lt101+else-tag-lt103+else-tag-lt107+else-tag-lt109+else-tag-lt113 w ↦ rule_off 113 200 c.args.tag refl e (omega arith) (omega arith)
      | in_default-via-then-tag-lt351+else-tag-lt201+else-tag-lt228+then-tag-lt251 w ↦ rule_off 228 250 c.args.tag refl e (omega arith) (omega arith)
      | in_default-via-then-tag-lt351+else-tag-lt201+else-tag-lt228+else-tag-lt251+else-tag-lt253+then-tag-lt301 w ↦ rule_off 253 300 c.args.tag refl e (omega arith) (omega arith)
      | in_default-via-then-tag-lt351+else-tag-lt201+else-tag-lt228+else-tag-lt251+else-tag-lt253+else-tag-lt301+else-tag-lt308 w ↦ rule_off 308 350 c.args.tag refl e (omega arith) (omega arith)
      | in_default-via-else-tag-lt351+then-tag-lt751+else-tag-lt353+then-tag-lt401 w ↦ rule_off 353 400 c.args.tag refl e (omega arith) (omega arith)
      | in_default-via-else-tag-lt351+then-tag-lt751+else-tag-lt353+else-tag-lt401+else-tag-lt413+then-tag-lt610 w ↦ elim (cases_lt c.args.tag 601) [ inl h0 ↦ rule_off 413 600 c.args.tag refl e (omega arith) (omega arith) | inr h0 ↦ rule_off 602 609 c.args.tag refl e (omega arith) (omega arith) ]
      | in_default-via-else-tag-lt351+then-tag-lt751+else-tag-lt353+else-tag-lt401+else-tag-lt413+else-tag-lt610+else-tag-lt612 w ↦ elim (cases_lt c.args.tag 620) [ inl h0 ↦ rule_off 612 619 c.args.tag refl e (omega arith) (omega arith) | inr h0 ↦ elim (cases_lt c.args.tag 701) [ inl h1 ↦ rule_off 621 700 c.args.tag refl e (omega arith) (omega arith) | inr h1 ↦ rule_off 702 750 c.args.tag refl e (omega arith) (omega arith) ] ]
      | in_default-via-else-tag-lt351+else-tag-lt751+else-tag-lt765+then-tag-lt801 w ↦ rule_off 765 800 c.args.tag refl e (omega arith) (omega arith)
      | in_default-via-else-tag-lt351+else-tag-lt751+else-tag-lt765+else-tag-lt801+else-tag-lt803+then-tag-lt851 w ↦ rule_off 804 850 c.args.tag refl e (omega arith) (omega arith)
      | in_default-via-else-tag-lt351+else-tag-lt751+else-tag-lt765+else-tag-lt801+else-tag-lt803+else-tag-lt851+else-tag-lt853 w ↦ elim (cases_lt c.args.tag 901) [ inl h0 ↦ rule_off 853 900 c.args.tag refl e (omega arith) (omega arith) | inr h0 ↦ rule_past c.args.tag e (omega arith) ]
    ]
