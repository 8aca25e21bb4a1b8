-- Definitions that say nothing of expressions: a choice by a test, "for all numbers below", "the first number that", a list by its places, and what is lent in parts.
pub mod Tests
pub mod Lists
pub mod Parts
