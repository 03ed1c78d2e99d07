use Rattle.std.proofs.Common.{◌≡◌, ◌<◌, refl, sym, arith}
use Rattle.frame.specs.Tags.{class_of, lookup}
use Rattle.tags.specs.TagCodes.{form_code}
use Rattle.tags.proofs.TagTables.{beyond, range_form, gap_form, either_side}
use Rattle.tags.proofs.form_of.Goals as goal

pub returns-in-1 : goal.returns-in-1
unfolding class_of lookup form_code
returns-in-1 c = rw c.in-1.is

pub returns-in-3 : goal.returns-in-3
unfolding class_of lookup form_code
returns-in-3 c = rw c.in-3.is

pub returns-in-4 : goal.returns-in-4
unfolding class_of lookup form_code
returns-in-4 c = rw c.in-4.is

pub returns-in-5 : goal.returns-in-5
unfolding class_of lookup form_code
returns-in-5 c = rw c.in-5.is

pub returns-in-407 : goal.returns-in-407
unfolding class_of lookup form_code
returns-in-407 c = rw c.in-407.is

pub returns-in-601 : goal.returns-in-601
unfolding class_of lookup form_code
returns-in-601 c = rw c.in-601.is

pub returns-in-620 : goal.returns-in-620
unfolding class_of lookup form_code
returns-in-620 c = rw c.in-620.is

pub returns-in-701 : goal.returns-in-701
unfolding class_of lookup form_code
returns-in-701 c = rw c.in-701.is

pub returns-in-901 : goal.returns-in-901
unfolding class_of lookup form_code
returns-in-901 c = rw c.in-901.is

pub returns-in-101-to-112 : goal.returns-in-101-to-112
unfolding class_of lookup form_code
returns-in-101-to-112 c = range_form _ 101 12 refl c.args.tag (omega arith) (omega arith)

pub returns-in-201-to-227 : goal.returns-in-201-to-227
unfolding class_of lookup form_code
returns-in-201-to-227 c = range_form _ 201 27 refl c.args.tag (omega arith) (omega arith)

pub returns-in-251-to-252 : goal.returns-in-251-to-252
unfolding class_of lookup form_code
returns-in-251-to-252 c = range_form _ 251 2 refl c.args.tag (omega arith) (omega arith)

pub returns-in-301-to-307 : goal.returns-in-301-to-307
unfolding class_of lookup form_code
returns-in-301-to-307 c = range_form _ 301 7 refl c.args.tag (omega arith) (omega arith)

pub returns-in-351-to-352 : goal.returns-in-351-to-352
unfolding class_of lookup form_code
returns-in-351-to-352 c = range_form _ 351 2 refl c.args.tag (omega arith) (omega arith)

pub returns-in-401-to-406 : goal.returns-in-401-to-406
unfolding class_of lookup form_code
returns-in-401-to-406 c = range_form _ 401 6 refl c.args.tag (omega arith) (omega arith)

pub returns-in-408-to-409 : goal.returns-in-408-to-409
unfolding class_of lookup form_code
returns-in-408-to-409 c = range_form _ 408 2 refl c.args.tag (omega arith) (omega arith)

pub returns-in-410-to-412 : goal.returns-in-410-to-412
unfolding class_of lookup form_code
returns-in-410-to-412 c = range_form _ 410 3 refl c.args.tag (omega arith) (omega arith)

pub returns-in-610-to-611 : goal.returns-in-610-to-611
unfolding class_of lookup form_code
returns-in-610-to-611 c = range_form _ 610 2 refl c.args.tag (omega arith) (omega arith)

pub returns-in-751-to-757 : goal.returns-in-751-to-757
unfolding class_of lookup form_code
returns-in-751-to-757 c = range_form _ 751 7 refl c.args.tag (omega arith) (omega arith)

pub returns-in-761-to-764 : goal.returns-in-761-to-764
unfolding class_of lookup form_code
returns-in-761-to-764 c = range_form _ 761 4 refl c.args.tag (omega arith) (omega arith)

pub returns-in-801-to-803 : goal.returns-in-801-to-803
unfolding class_of lookup form_code
returns-in-801-to-803 c = range_form _ 801 3 refl c.args.tag (omega arith) (omega arith)

pub returns-in-851-to-852 : goal.returns-in-851-to-852
unfolding class_of lookup form_code
returns-in-851-to-852 c = range_form _ 851 2 refl c.args.tag (omega arith) (omega arith)

pub returns-in_default : goal.returns-in_default
returns-in_default c = either_side 1 c.args.tag (λ (z : c.args.tag ≡ 1). omega arith)
    (λ (l : c.args.tag < 1). gap_form 0 0 refl c.args.tag (omega arith) (omega arith))
    (λ (m : 1 < c.args.tag). either_side 3 c.args.tag (λ (z : c.args.tag ≡ 3). omega arith)
    (λ (l : c.args.tag < 3). gap_form 2 2 refl c.args.tag (omega arith) (omega arith))
    (λ (m : 3 < c.args.tag). either_side 4 c.args.tag (λ (z : c.args.tag ≡ 4). omega arith)
    (λ (l : c.args.tag < 4). absurd (omega arith))
    (λ (m : 4 < c.args.tag). either_side 5 c.args.tag (λ (z : c.args.tag ≡ 5). omega arith)
    (λ (l : c.args.tag < 5). absurd (omega arith))
    (λ (m : 5 < c.args.tag). gap_form 6 100 refl c.args.tag (omega arith) (omega arith)))))

pub returns-in_default-2 : goal.returns-in_default-2
returns-in_default-2 c = gap_form 113 200 refl c.args.tag (omega arith) (omega arith)

pub returns-in_default-3 : goal.returns-in_default-3
returns-in_default-3 c = gap_form 228 250 refl c.args.tag (omega arith) (omega arith)

pub returns-in_default-4 : goal.returns-in_default-4
returns-in_default-4 c = gap_form 253 300 refl c.args.tag (omega arith) (omega arith)

pub returns-in_default-5 : goal.returns-in_default-5
returns-in_default-5 c = gap_form 308 350 refl c.args.tag (omega arith) (omega arith)

pub returns-in_default-6 : goal.returns-in_default-6
returns-in_default-6 c = gap_form 353 400 refl c.args.tag (omega arith) (omega arith)

pub returns-in_default-7 : goal.returns-in_default-7
returns-in_default-7 c = either_side 601 c.args.tag (λ (z : c.args.tag ≡ 601). omega arith)
    (λ (l : c.args.tag < 601). gap_form 413 600 refl c.args.tag (omega arith) (omega arith))
    (λ (m : 601 < c.args.tag). gap_form 602 609 refl c.args.tag (omega arith) (omega arith))

pub returns-in_default-8 : goal.returns-in_default-8
returns-in_default-8 c = either_side 620 c.args.tag (λ (z : c.args.tag ≡ 620). omega arith)
    (λ (l : c.args.tag < 620). gap_form 612 619 refl c.args.tag (omega arith) (omega arith))
    (λ (m : 620 < c.args.tag). either_side 701 c.args.tag (λ (z : c.args.tag ≡ 701). omega arith)
    (λ (l : c.args.tag < 701). gap_form 621 700 refl c.args.tag (omega arith) (omega arith))
    (λ (m : 701 < c.args.tag). gap_form 702 750 refl c.args.tag (omega arith) (omega arith)))

pub returns-in_default-9 : goal.returns-in_default-9
returns-in_default-9 c = gap_form 758 760 refl c.args.tag (omega arith) (omega arith)

pub returns-in_default-10 : goal.returns-in_default-10
returns-in_default-10 c = gap_form 765 800 refl c.args.tag (omega arith) (omega arith)

pub returns-in_default-11 : goal.returns-in_default-11
returns-in_default-11 c = gap_form 804 850 refl c.args.tag (omega arith) (omega arith)

pub returns-in_default-12 : goal.returns-in_default-12
returns-in_default-12 c = either_side 901 c.args.tag (λ (z : c.args.tag ≡ 901). omega arith)
    (λ (l : c.args.tag < 901). gap_form 853 900 refl c.args.tag (omega arith) (omega arith))
    (λ (m : 901 < c.args.tag). sym (beyond c.args.tag m))
