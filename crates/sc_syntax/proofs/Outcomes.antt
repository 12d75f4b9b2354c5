-- Facts of one outcome are turned into others.
use Rattle.std.proofs.Common.{Ok, Err, OnOk, IfErr}
use Rattle.std.specs.declared.result.Result.{Result}

pub on_ok : {T E : Type 0} (r : Result T E) (P Q : Type 0) → OnOk r P → (P → Q) → OnOk r Q
on_ok (Ok x) P Q h f = f h
on_ok (Err e) P Q h f = h

pub on_ok_both : {T E : Type 0} (r : Result T E) (P Q R : Type 0) → OnOk r P → OnOk r Q → (P → Q → R) → OnOk r R
on_ok_both (Ok x) P Q R h k f = f h k
on_ok_both (Err e) P Q R h k f = h

pub always_ok : {T E : Type 0} (r : Result T E) (Q : Type 0) → Q → OnOk r Q
always_ok (Ok x) Q q = q
always_ok (Err e) Q q = tt

pub if_err : {T E : Type 0} (r : Result T E) (P Q : E → Type 0) → IfErr r P → ((e : E) → P e → Q e) → IfErr r Q
if_err (Ok x) P Q h f = h
if_err (Err e) P Q h f = f e h

pub if_err_both : {T E : Type 0} (r : Result T E) (P Q R : E → Type 0) → IfErr r P → IfErr r Q → ((e : E) → P e → Q e → R e) → IfErr r R
if_err_both (Ok x) P Q R h k f = h
if_err_both (Err e) P Q R h k f = f e h k
